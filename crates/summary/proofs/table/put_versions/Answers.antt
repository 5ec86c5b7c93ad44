-- `put_versions` meets its contract. Assumes nothing.
use Rattle.std.proofs.Common.{◌≡◌, ◌<◌, ◌*◌, length, take, refl, rules, arith}
use Rattle.quantity.proofs.Lists.{length-of}
use Rattle.checks.proofs.Found.{records-taken}
use Rattle.summary.specs.Table.{version_row}
use Rattle.summary.proofs.Tables.{rows-none, rows-more, version-here, all-held}
use Rattle.summary.proofs.table.put_versions.Goals as goal

pub loop-i-init : goal.loop-i-init
loop-i-init c = rows-none _ _

pub loop-i-preserved : goal.loop-i-preserved
loop-i-preserved c =
    let a = c.args in
    let l = c.loop-i in
    let n = c.records_in-i-end.result in
    let long : length a.versions ≡ 512 = search (rules, length-of) in
    let same = records-taken a.versions n a.count long c.records_in-i-end.ensures in
    let under : l.i < n = search rules in
    let here = version-here a.versions n a.count same.1 l.i _ under c.version_places-row.ensures in
    rows-more (version_row (take a.count a.versions)) 4 (λ i. refl) l.i (4 * l.i) _ a.out.now l.out _ refl here l.invariant c.put_row.ensures

pub returns : goal.returns
returns c =
    let a = c.args in
    let n = c.records_in-i-end.result in
    let long : length a.versions ≡ 512 = search (rules, length-of) in
    let same = records-taken a.versions n a.count long c.records_in-i-end.ensures in
    let held = all-held a.versions n a.count same.1 (omega (arith, same.0)) in
    let e : c.loop-i.i ≡ length (take a.count a.versions) = omega (arith, held) in
    rw e at c.loop-i.invariant
