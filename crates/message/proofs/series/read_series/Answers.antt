-- `read_series` meets its contract: the count, then every number, then the buffer is filled. Assumes nothing.
use Rattle.std.proofs.lemmas.Result.{err_from_is_err_and}
use mathlib.Core.Path.{sym}
use lib.ListN.{length}
use Rattle.message.proofs.CountSteps.{counted}
use Rattle.message.proofs.SeriesSteps.{all-there, series-refused, count-refused, numbers-refused, series-ok}
use Rattle.message.proofs.series.read_series.Goals as goal

pub fill_series-requires : goal.fill_series-requires
fill_series-requires c =
    let w = counted c.args.file.now c.args.at (length c.args.series.now) (sym c.in_ok-count.ensures) in
    (w.within, w.roomy, all-there c.args.file.now c.args.at (length c.args.series.now) w (sym c.in_ok-end.ensures))

pub returns : goal.returns
returns c =
    series-ok c.args.file.now c.args.at (length c.args.series.now) (counted c.args.file.now c.args.at (length c.args.series.now) (sym c.in_ok-count.ensures)) c.args.series.now
    (sym c.in_ok-end.ensures) c.fill_series.ensures

pub returns-in_err-end : goal.returns-in_err-end
returns-in_err-end c =
    let p = err_from_is_err_and c.from_residual-in_err-end.result c.from_residual-in_err-end.ensures.1 in
    rw (p.1, p.2)
    (series-refused c.args.file.now _ c.args.series.now
    (numbers-refused c.args.file.now c.args.at (length c.args.series.now) (counted c.args.file.now c.args.at (length c.args.series.now) (sym c.in_ok-count.ensures)) (sym c.in_err-end.ensures)))

pub returns-in_err-count : goal.returns-in_err-count
returns-in_err-count c =
    let p = err_from_is_err_and c.from_residual.result c.from_residual.ensures.1 in
    rw (p.1, p.2) (series-refused c.args.file.now _ c.args.series.now (count-refused c.args.file.now c.args.at (length c.args.series.now) (sym c.in_err-count.ensures)))
