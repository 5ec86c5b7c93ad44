-- `decide` meets its contract. Assumes nothing.
use mathlib.Core.Path.{refl}
use Rattle.model.specs.Call.{Stores}
use Rattle.checks.specs.Stepped.{stores_of}
use Rattle.checks.proofs.Untaken.{none-taken, book-taken, unplanned}
use Rattle.dispatch.specs.Asked.{asked}
use Rattle.dispatch.proofs.decisions.decide.Goals.{Start}
use Rattle.dispatch.proofs.decisions.decide.Goals as goal

-- the stores as they are lent
abbrev lent-to : Start → Stores
lent-to c = stores_of c.args.values.now c.args.book.now c.args.log.now c.args.schedules.now

pub decide_activate-requires : goal.decide_activate-requires
unfolding asked
decide_activate-requires c = let s = c in record { desk = s.requires.desk; looked = rw c.in-Activate.is at s.requires.looked }

pub decide_deactivate-requires : goal.decide_deactivate-requires
unfolding asked
decide_deactivate-requires c = let s = c in record { desk = s.requires.desk; looked = rw c.in-Deactivate.is at s.requires.looked }

pub decide_submit-requires : goal.decide_submit-requires
unfolding asked
decide_submit-requires c = let s = c in record { desk = s.requires.desk; looked = rw c.in-Submit.is at s.requires.looked }

pub decide_notice-requires : goal.decide_notice-requires
unfolding asked
decide_notice-requires c = let s = c in record { desk = s.requires.desk; looked = rw c.in-Notice.is at s.requires.looked }

pub decide_assign-requires : goal.decide_assign-requires
unfolding asked
decide_assign-requires c = let s = c in record { desk = s.requires.desk; looked = rw c.in-Assign.is at s.requires.looked }

pub returns-in-Open : goal.returns-in-Open
unfolding asked
returns-in-Open c d k = rw c.in-Open.is (c.decide_open.ensures d)

pub returns-in-Activate : goal.returns-in-Activate
unfolding asked
returns-in-Activate c d k =
    let e = c.decide_activate.ensures d (rw c.in-Activate.is at k) in
    rw c.in-Activate.is (e.0, unplanned _ _ _ refl (none-taken _ _ _ refl (e.1 _)))

pub returns-in-Deactivate : goal.returns-in-Deactivate
unfolding asked
returns-in-Deactivate c d k =
    let e = c.decide_deactivate.ensures d (rw c.in-Deactivate.is at k) in
    rw c.in-Deactivate.is (e.0, unplanned _ _ _ refl (none-taken _ _ _ refl (e.1 _)))

pub returns-in-Submit : goal.returns-in-Submit
unfolding asked
returns-in-Submit c d k =
    let e = c.decide_submit.ensures d (rw c.in-Submit.is at k) in
    let s = lent-to (goal.at.returns-in-Submit c).Start in
    rw c.in-Submit.is (e.0, unplanned _ _ s refl (e.1 s))

pub returns-in-Notice : goal.returns-in-Notice
unfolding asked
returns-in-Notice c d k =
    let e = c.decide_notice.ensures d (rw c.in-Notice.is at k) in
    let s = lent-to (goal.at.returns-in-Notice c).Start in
    rw c.in-Notice.is (e.0, unplanned _ _ s refl (e.1 s))

pub returns-in-Assign : goal.returns-in-Assign
unfolding asked
returns-in-Assign c d k =
    let e = c.decide_assign.ensures d (rw c.in-Assign.is at k) in
    let s = lent-to (goal.at.returns-in-Assign c).Start in
    rw c.in-Assign.is (e.0, unplanned _ _ s refl (book-taken _ _ s refl (e.1 s)))

pub returns-in-Close : goal.returns-in-Close
unfolding asked
returns-in-Close c d k =
    let e = c.decide_close.ensures d (rw c.in-Close.is at k) in
    rw c.in-Close.is (e.0, unplanned _ _ _ refl (none-taken _ _ _ refl (e.1 _)))

pub returns-in-Issue : goal.returns-in-Issue
unfolding asked
returns-in-Issue c d k =
    let e = c.decide_issue.ensures d (rw c.in-Issue.is at k) in
    rw c.in-Issue.is (e.0, unplanned _ _ _ refl (none-taken _ _ _ refl (e.1 _)))
