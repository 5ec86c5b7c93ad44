-- A call's fields by their names.
use Rattle.std.specs.Prelude.{ℕ, cond, List, eqb, get_or, drop, Option, Some, None}
use Rattle.message.specs.Call.{opening, activation, deactivation, submission, noticing, assignment, closing, issuing, before_groups}
use Rattle.message.specs.declared.DeskCall.{DeskCall}
use Rattle.message.specs.declared.DeskCall.TheVariants.{Open, Activate, Deactivate, Submit, Notice, Assign, Close, Issue}

-- submit, notice, assign: "point, version, day", "point, version, verdict, day", "area, group, day"; close and issue (document 02): "both with run and day"
unfoldable pub later_call_of : (kind a b c d : ℕ) → Option DeskCall
later_call_of k a b c d =
    cond (eqb k submission) (Some (Submit (record { 0 = a }) (record { 0 = b }) (record { 0 = c })))
    (cond (eqb k noticing) (Some (Notice (record { 0 = a }) (record { 0 = b }) c (record { 0 = d })))
    (cond (eqb k assignment) (Some (Assign a b (record { 0 = c })))
    (cond (eqb k closing) (Some (Close a (record { 0 = b })))
    (cond (eqb k issuing) (Some (Issue a (record { 0 = b })))
    None))))

-- open, activate and deactivate: "Q, F, C, K", "point, kind, area, partner, day", "point, day"; then the others, and no other kind
unfoldable pub call_of : (kind : ℕ) (fields : List ℕ) → Option DeskCall
call_of k f =
    cond (eqb k opening) (Some (Open (get_or f 0 0) (record { 0 = get_or f 1 0 }) (record { 0 = get_or f 2 0 }) (record { 0 = get_or f 3 0 })))
    (cond (eqb k activation) (Some (Activate (record { 0 = get_or f 0 0 }) (get_or f 1 0) (get_or f 2 0) (get_or f 3 0) (record { 0 = get_or f 4 0 })))
    (cond (eqb k deactivation) (Some (Deactivate (record { 0 = get_or f 0 0 }) (record { 0 = get_or f 1 0 })))
    (later_call_of k (get_or f 0 0) (get_or f 1 0) (get_or f 2 0) (get_or f 3 0))))

-- an opening's "17 delta groups (T, areas 1..16)", behind Q, F, C, K
abbrev pub groups_of : (fields : List ℕ) → List ℕ
groups_of f = drop before_groups f
