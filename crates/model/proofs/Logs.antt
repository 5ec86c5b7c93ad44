-- Laws of the log: when a row is due and which, and a row more. Assumes nothing.
use Prim.Native.Nat.{ℕ, ◌+◌, ◌*◌, ◌≤◌}
use mathlib.Core.Path.{◌≡◌, refl, sym, ap, ◌∙◌}
use mathlib.Core.Bool.{Bool, true, false, cond, true≢false, false≢true}
use mathlib.Core.Logic.{◌⊎◌, inl, inr}
use mathlib.Core.List.{List, [], ◌∷◌, ◌++◌, append_assoc}
use native.Mathlib.Omega.{arith}
use borrow.Author.Tests.{ltb-false, eqb-true, eq-eqb, not-true, not-false}
use lib.Dec.{eqb}
use lib.ListN.{length, take, drop, length-append}
use lib.Seq.{take_at, length-take-le}
use Rattle.std.specs.Prelude.{Option, Some, None}
use Rattle.std.proofs.lemmas.Option.{none-some, same_Some}
use Rattle.quantity.proofs.Tests.{and-left, and-right, and-both}
use Rattle.book.specs.Row.{splice}
use Rattle.book.proofs.Rows.{length-splice}
use Rattle.state.specs.Change.{settled_by}
use Rattle.state.specs.Selection.{own, with_status, SameVersion}
use Rattle.state.specs.declared.Selection.{Selection}
use Rattle.state.specs.declared.Selection.TheVariants.{None, Selected}
use Rattle.state.specs.declared.Status.TheVariants.{Check}
use Rattle.state.specs.declared.VersionRecord.{VersionRecord}
use Rattle.state.proofs.Kept.{settle-same}
use Rattle.model.specs.Causes.{log_full}
use Rattle.model.specs.Laws.{SameRow, RowOf}
use Rattle.model.specs.Log.{same_row, differ, log_row, due, add_row, log_words, log_numbers, logged, used_after}
use Rattle.model.specs.declared.LogRow.{LogRow}

-- what is selected stays the same row
pub differ-same : (s : Selection) → differ s s ≡ false
unfolding differ
differ-same None = refl
differ-same (Selected r) = rw (eq-eqb r.at r.at refl, eq-eqb r.version.0 r.version.0 refl)

-- what is selected as before is the same row
pub differ-not : (o n : Selection) → differ o n ≡ false → SameRow o n
unfolding differ
differ-not None None e = tt
differ-not None (Selected s) e = absurd (true≢false e)
differ-not (Selected r) None e = absurd (true≢false e)
differ-not (Selected r) (Selected s) e =
    let same : same_row r s ≡ true = not-false (same_row r s) e in
    (eqb-true r.at s.at (and-left (eqb r.at s.at) _ same), eqb-true r.version.0 s.version.0 (and-right (eqb r.at s.at) _ same))

-- a status is not looked at
differ-version : (s t : Selection) → SameVersion t s → differ s t ≡ false
unfolding differ
differ-version s t e = bare s t ∙ ap (λ (x : Selection). differ (with_status Check s) x) e ∙ differ-same (with_status Check s)
  where
    bare : (s t : Selection) → differ s t ≡ differ (with_status Check s) (with_status Check t)
    bare None None = refl
    bare None (Selected r) = refl
    bare (Selected r) None = refl
    bare (Selected r) (Selected q) = refl

-- where a point's selections stay, but for their statuses, no row is due
pub due-same : (vs ws : List VersionRecord) (p d : ℕ) → ((r : ℕ) → SameVersion (own r p ws) (own r p vs)) → due vs ws p d ≡ None
unfolding due
due-same vs ws p d e = rw (differ-version (own 1 p vs) (own 1 p ws) (e 1), differ-version (own 2 p vs) (own 2 p ws) (e 2))

-- so a settle owes none
pub settle-unlogged : (r : ℕ) (vs : List VersionRecord) (p d : ℕ) → due vs (settled_by r vs) p d ≡ None
settle-unlogged r vs p d = due-same vs (settled_by r vs) p d (λ q. settle-same r vs q p)

-- and where no row is due, both stay: "When run 1's selection or run 2's own changes, the log gains a row"
pub due-nothing : (vs ws : List VersionRecord) (p d : ℕ) → due vs ws p d ≡ None → SameRow (own 1 p vs) (own 1 p ws) × SameRow (own 2 p vs) (own 2 p ws)
unfolding due
due-nothing vs ws p d = go (differ (own 1 p vs) (own 1 p ws)) (differ (own 2 p vs) (own 2 p ws)) refl refl
  where
    go : (a b : Bool) → differ (own 1 p vs) (own 1 p ws) ≡ a → differ (own 2 p vs) (own 2 p ws) ≡ b
        → cond a (Some (log_row d p 1 (own 1 p ws))) (cond b (Some (log_row d p 2 (own 2 p ws))) None) ≡ None → SameRow (own 1 p vs) (own 1 p ws) × SameRow (own 2 p vs) (own 2 p ws)
    go true b x y e = absurd (none-some _ (sym e))
    go false true x y e = absurd (none-some _ (sym e))
    go false false x y e = (differ-not (own 1 p vs) (own 1 p ws) x, differ-not (own 2 p vs) (own 2 p ws) y)

-- what is another selection is another row
differ-other : (o n : Selection) → differ o n ≡ true → SameRow o n → ⊥
unfolding differ
differ-other None None e q = false≢true e
differ-other None (Selected s) e q = q
differ-other (Selected r) None e q = q
differ-other (Selected r) (Selected s) e q =
    true≢false (sym (and-both (eqb r.at s.at) _ (eq-eqb r.at s.at q.0) (eq-eqb r.version.0 s.version.0 q.1)) ∙ not-true (same_row r s) e)

-- a row that is due has the day, the point, and the run whose selection changed with its new version, as four numbers of the log
pub due-row : (vs ws : List VersionRecord) (p d : ℕ) (r : LogRow) → due vs ws p d ≡ Some r → RowOf vs ws p d 1 r ⊎ RowOf vs ws p d 2 r
unfolding due
due-row vs ws p d r = go (differ (own 1 p vs) (own 1 p ws)) (differ (own 2 p vs) (own 2 p ws)) refl refl
  where
    go : (a b : Bool) → differ (own 1 p vs) (own 1 p ws) ≡ a → differ (own 2 p vs) (own 2 p ws) ≡ b
        → cond a (Some (log_row d p 1 (own 1 p ws))) (cond b (Some (log_row d p 2 (own 2 p ws))) None) ≡ Some r → RowOf vs ws p d 1 r ⊎ RowOf vs ws p d 2 r
    go true b x y e = inl (record { changed = differ-other (own 1 p vs) (own 1 p ws) x; words = ap log_words (same_Some r (log_row d p 1 (own 1 p ws)) (sym e)) })
    go false true x y e = inr (record { changed = differ-other (own 2 p vs) (own 2 p ws) y; words = ap log_words (same_Some r (log_row d p 2 (own 2 p ws)) (sym e)) })
    go false false x y e = absurd (none-some _ e)

pub numbers-snoc : (l : List LogRow) (r : LogRow) → log_numbers (l ++ (r ∷ [])) ≡ log_numbers l ++ log_words r
unfolding log_numbers
numbers-snoc [] r = refl
numbers-snoc (x ∷ l) r = ap (λ (y : List ℕ). log_words x ++ y) (numbers-snoc l r) ∙ sym (append_assoc (log_words x) (log_numbers l) (log_words r))

-- the rows used are those that are worked out
pub used-rows : (o : Option LogRow) (l : List LogRow) → used_after o (length l) ≡ length (add_row o l)
used-rows None l = refl
used-rows (Some r) l = sym (length-append l (r ∷ []))

module _ (n : ℕ) where
  -- there is room for the row that is due
  pub log-room : (o : Option LogRow) (log : ℕ) → log_full n log o ≡ false → 4 * n ≤ log → 4 * used_after o n ≤ log
  log-room None log e h = h
  log-room (Some r) log e h = omega (arith, ltb-false)

  module _ (log : List ℕ) where
    pub length-logged : (o : Option LogRow) → 4 * used_after o n ≤ length log → length (logged n o log) ≡ length log
    length-logged None h = refl
    length-logged (Some r) h = length-splice log (log_words r) (4 * n) 4 (omega arith) refl

    -- the log has the rows with the one that was due
    pub log-after : (o : Option LogRow) (l : List LogRow) → 4 * used_after o n ≤ length log → take (4 * n) log ≡ log_numbers l → take (4 * used_after o n) (logged n o log) ≡ log_numbers (add_row o l)
    unfolding splice
    log-after None l h e = e
    log-after (Some r) l h e =
        let front : length (take (4 * n) log) ≡ 4 * n = length-take-le (4 * n) log (omega arith) in
        ap (take (4 * (n + 1))) (sym (append_assoc (take (4 * n) log) (log_words r) (drop 4 (drop (4 * n) log))))
        ∙ take_at (take (4 * n) log ++ log_words r) (drop 4 (drop (4 * n) log)) (4 * (n + 1)) (length-append (take (4 * n) log) (log_words r) ∙ omega arith)
        ∙ ap (λ (x : List ℕ). x ++ log_words r) e ∙ sym (numbers-snoc l r)
