-- A closed run goes on selecting the same versions. Assumes nothing.
use Prim.Native.Nat.{ℕ}
use mathlib.Core.Path.{◌≡◌, refl}
use mathlib.Core.Bool.{true}
use mathlib.Core.List.{List, [], ◌++◌, map, map-append}
use mathlib.Core.Logic.{inl, inr}
use Rattle.state.specs.Desk.{versions_in, flag_of}
use Rattle.state.specs.Selection.{own, SameVersion}
use Rattle.model.specs.Agreement.{Chained, end, fresh}
use Rattle.model.specs.Call.{Stores, Lent, Told, told}
use Rattle.model.specs.Laws.{StaysClosed}
use Rattle.model.specs.Plain.{versions_of, closed_of, issued_of, plain_end, worked_out}
use Rattle.model.proofs.Corollaries.{reached}
use Rattle.model.proofs.Demands.{chained-front}
use Rattle.model.proofs.Flags.{Run, unflagged}
use Rattle.model.proofs.Main.{agree}
use Rattle.model.proofs.Onward.{Late, Plain, empty, opened, start, follows, selects-on, same-flags}

-- before any call nothing is closed, and nothing issued
pub unclosed : {h : List Told} (run : ℕ) → h ≡ [] → flag_of run (closed_of h) ≡ true → ⊥
unfolding worked_out
unclosed run z e = unflagged run (rw z at e)

pub unissued : {h : List Told} (run : ℕ) → h ≡ [] → flag_of run (issued_of h) ≡ true → ⊥
unfolding worked_out
unissued run z e = unflagged run (rw z at e)

-- a closed run lies past its deadline
closed-late : (h : List Told) → Plain h → (run : ℕ) → Run run → flag_of run (closed_of h) ≡ true → Late run h
closed-late h (empty z) run R e = absurd (unclosed run z e)
closed-late h (opened O) run R e = O.past run R e

module _ (l m : List Told) where
  abbrev h : List Told
  h = plain_end [] l

  abbrev g : List Told
  g = plain_end [] (l ++ m)

  pub closed-own : (run : ℕ) → Run run → flag_of run (closed_of h) ≡ true → (p : ℕ) → SameVersion (own run p (versions_of g)) (own run p (versions_of h))
  closed-own run R e p = (follows l m).picks run R (closed-late h (start l m) run R e) p

  pub closed-plain : StaysClosed (closed_of h) (versions_of h) (versions_of g)
  closed-plain =
      record {
        first = λ e p. selects-on h g (start l m) (follows l m) 1 (inl refl) (closed-late h (start l m) 1 (inl refl) e) p;
        second = λ e p. selects-on h g (start l m) (follows l m) 2 (inr refl) (closed-late h (start l m) 2 (inr refl) e) p;
      }

-- and on the running desk
pub closed-stays : (s : Stores) (l m : List Lent) → Chained (fresh s) (l ++ m)
    → StaysClosed (end (fresh s) l).desk.frame.closed (versions_in (end (fresh s) l).desk) (versions_in (end (fresh s) (l ++ m)).desk)
closed-stays s l m c =
    let front = chained-front (fresh s) l m c in
    let flags = (same-flags (end (fresh s) l) (plain_end [] (map told l)) (reached s l front)).closed in
    rw (flags, (agree s l front).versions, (agree s (l ++ m) c).versions, map-append told l m) (closed-plain (map told l) (map told m))
