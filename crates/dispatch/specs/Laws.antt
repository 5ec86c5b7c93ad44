-- The calls of the message file in the papers' words: what `asked` is judged by.
use Rattle.std.specs.Prelude.{ℕ, ◌≡◌, List, [], ◌∷◌, ℤ, length}
use Rattle.model.specs.Call.{Call, opens, activates, deactivates, submits, notices, assigns, closes, issues}

-- "A call is its kind, then fields in the order above: 1 open, 2 activate, 3 deactivate, 4 submit (with a count before the energies), 5 notice, 6 assign";
-- document 02: "kind 7 is close, kind 8 issue, both with run and day". The call that a kind with these fields and energies is.
pub data Says : (kind : ℕ) (fields : List ℕ) (energies : List ℤ) → Call → Type 0 where
  -- "Open: Q, F, C, K, 17 delta groups (T, areas 1..16)."
  opening : (q f c k : ℕ) (groups : List ℕ) → length groups ≡ 17 → Says 1 (q ∷ f ∷ c ∷ k ∷ groups) [] (opens q f c k groups)
  -- "Activate: point, kind, area, partner, day."
  activation : (point kind area partner day : ℕ) → Says 2 (point ∷ kind ∷ area ∷ partner ∷ day ∷ []) [] (activates point kind area partner day)
  -- "Deactivate: point, day."
  deactivation : (point day : ℕ) → Says 3 (point ∷ day ∷ []) [] (deactivates point day)
  -- "Submit: point, version, day, Q energies."
  submission : (point version day : ℕ) (energies : List ℤ) → Says 4 (point ∷ version ∷ day ∷ []) energies (submits point version day energies)
  -- "Notice: point, version, verdict (1 positive, 0 negative), day."
  noticing : (point version verdict day : ℕ) → Says 5 (point ∷ version ∷ verdict ∷ day ∷ []) [] (notices point version verdict day)
  -- "Assign: area (0 for T), group, day."
  assignment : (area group day : ℕ) → Says 6 (area ∷ group ∷ day ∷ []) [] (assigns area group day)
  -- "an older file's settle is read as close"
  closing : (run day : ℕ) → Says 7 (run ∷ day ∷ []) [] (closes run day)
  -- "byte 8 no longer meets 33"
  issuing : (run day : ℕ) → Says 8 (run ∷ day ∷ []) [] (issues run day)
