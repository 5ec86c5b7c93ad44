-- What holds of the reader, for any bytes, start and buffer. Assumes nothing.
use Prim.Native.Nat.{ℕ, ◌+◌, ◌-◌, ◌<◌, ◌≤◌}
use mathlib.Core.Path.{◌≡◌, refl, sym, ap, ◌∙◌}
use mathlib.Core.Bool.{cond}
use mathlib.Core.List.{List, []}
use native.Mathlib.Omega.{arith}
use native.Mathlib.Decide.{ℕ_discrete}
use borrow.Author.Tests.{eq-eqb, ne_eqb}
use lib.Dec.{eqb}
use lib.ListN.{length, drop, get_or, length-drop, drop_of_length-le}
use Rattle.std.specs.Prelude.{Some, None, Ok, Err}
use Rattle.message.specs.Read.{Read, got, refused}
use Rattle.message.specs.Call.{Sent, Carried, submission, parse}
use Rattle.message.specs.Named.{call_of, later_call_of, groups_of}
use Rattle.message.specs.File.{stop, before, calls_in}
use Rattle.reader.specs.Reader.{Reading, padded, reading_of, read_at, series_after}
use Rattle.message.specs.declared.DeskCall.{DeskCall}
use Rattle.message.specs.declared.DeskCall.TheVariants.{Submit}
use Rattle.quantity.specs.declared.Day.{Day}
use Rattle.quantity.specs.declared.PointNo.{PointNo}
use Rattle.quantity.specs.declared.Version.{Version}
use Rattle.reader.specs.declared.CallRead.{CallRead}
use Rattle.message.specs.declared.FileCause.{FileCause}
use Rattle.message.specs.declared.FileCause.TheVariants.{Cut}
use Rattle.message.specs.declared.FileRefusal.{FileRefusal}
use Rattle.message.proofs.Parsers.{next-of}
use Rattle.message.proofs.Numbers.{decode-none}
use Rattle.message.proofs.Calls.{parse-read}
use Rattle.message.proofs.Fields.{known}
use Rattle.message.proofs.Files.{calls-next, calls-stop}

-- a start beyond the file's end is 31, with that start
pub beyond : (s : List ℕ) (at room : ℕ) → length s < at → read_at s at room ≡ Err (record { cause = Cut; offset = at })
unfolding read_at
beyond s at room h = rw (ne_eqb at (length s) (λ e. omega arith), drop_of_length-le s {i = at} (omega arith), decode-none)

-- what a step of the reader says of the file's calls: the call that is parsed, its name and what stands beside it, and those behind it
pub record Stepped (s : List ℕ) (at room : ℕ) (d : DeskCall) (n m : ℕ) (groups : List ℕ) : Type 0 where
  pub call : Sent
  pub parsed : parse room (drop at s) ≡ got call (drop m s)
  pub calls : calls_in room (drop at s) ≡ before call (calls_in room (drop m s))
  pub named : call_of call.kind (padded call.fields) ≡ Some d
  pub count : n ≡ length call.energies
  pub beside : groups ≡ groups_of (padded call.fields)
  pub later : at + 3 ≤ m
  pub within : m ≤ length s

-- a call that a file carries is a call of the desk
pub carried-known : {c : Sent} → Carried c → (d : DeskCall) × (call_of c.kind (padded c.fields) ≡ Some d)
carried-known {c} h = known (padded c.fields) c.kind h.known

module _ (s : List ℕ) (at room : ℕ) where
  -- the reading: the end, a call that is parsed, or its refusal
  readings : (P : Reading → Type 0) → (at ≡ length s → P (Ok None)) →
      ((at ≡ length s → ⊥) → (c : Sent) (r : List ℕ) → parse room (drop at s) ≡ got c r → (d : DeskCall) → call_of c.kind (padded c.fields) ≡ Some d →
      P (Ok (Some (record { call = d; groups = groups_of (padded c.fields); count = length c.energies; next = length s - length r })))) →
      ((at ≡ length s → ⊥) → (x : FileCause) → parse room (drop at s) ≡ refused x → P (Err (record { cause = x; offset = at }))) →
      P (read_at s at room)
  unfolding read_at
  readings P ended call not = go (ℕ_discrete at (length s))
    where
      found : (at ≡ length s → ⊥) → (d : Read Sent) → parse room (drop at s) ≡ d → P (reading_of (length s) at d)
      found n (got c r) p =
          let k = carried-known (parse-read room (drop at s) p).carried in
          rw k.1 (call n c r p k.0 k.1)
      found n (refused x) p = not n x p

      go : Dec (at ≡ length s) → P (cond (eqb at (length s)) (Ok None) (reading_of (length s) at (parse room (drop at s))))
      go (yes e) = rw (eq-eqb at (length s) e) (ended e)
      go (no n) = rw (ne_eqb at (length s) n) (found n (parse room (drop at s)) refl)

  pub reader-end : read_at s at room ≡ Ok None → at ≡ length s
  reader-end =
      readings (λ (r : Reading). r ≡ Ok None → at ≡ length s) (λ e q. e)
      (λ n c r p d k q. absurd (let z : ◌≡◌ {A = ℕ} 0 1 = cc in omega arith)) (λ n x p q. absurd (let z : ◌≡◌ {A = ℕ} 0 1 = cc in omega arith))

  pub reader-call : {read : CallRead} → read_at s at room ≡ Ok (Some read) → Stepped s at room read.call read.count read.next read.groups
  reader-call {read} =
      readings (λ (r : Reading). r ≡ Ok (Some read) → Stepped s at room read.call read.count read.next read.groups)
      (λ e q. absurd (let z : ◌≡◌ {A = ℕ} 0 1 = cc in omega arith)) go (λ n x p q. absurd (let z : ◌≡◌ {A = ℕ} 0 1 = cc in omega arith))
    where
      go : (at ≡ length s → ⊥) → (c : Sent) (r : List ℕ) → parse room (drop at s) ≡ got c r → (e : DeskCall) → call_of c.kind (padded c.fields) ≡ Some e →
          ◌≡◌ {A = Reading} (Ok (Some (record { call = e; groups = groups_of (padded c.fields); count = length c.energies; next = length s - length r }))) (Ok (Some read)) →
          Stepped s at room read.call read.count read.next read.groups
      go ne c r p e k q =
          let same : ◌≡◌ {A = CallRead} (record { call = e; groups = groups_of (padded c.fields); count = length c.energies; next = length s - length r }) read = cc in
          let w = (parse-read room (drop at s) p).behind in
          let v = next-of 3 s at (omega (arith, w.some, w.inside, length-drop at s)) w in
          let next : length s - length r ≡ read.next = ap (λ (x : CallRead). x.next) same in
          let parsed = p ∙ ap (got c) (v.there ∙ ap (λ (i : ℕ). drop i s) next) in
          record {
            call = c;
            parsed = parsed;
            calls = calls-next room (drop at s) parsed;
            named = k ∙ ap (λ (x : CallRead). Some x.call) same;
            count = sym (ap (λ (x : CallRead). x.count) same);
            beside = sym (ap (λ (x : CallRead). x.groups) same);
            later = omega (arith, v.later, next);
            within = omega (arith, v.within, next);
          }

  pub reader-refused : {x : FileCause} {o : ℕ} → at ≤ length s → read_at s at room ≡ Err (record { cause = x; offset = o }) →
      (calls_in room (drop at s) ≡ stop (drop at s) x) × (o ≡ at)
  reader-refused {x} {o} h =
      readings (λ (r : Reading). r ≡ Err (record { cause = x; offset = o }) → (calls_in room (drop at s) ≡ stop (drop at s) x) × (o ≡ at))
      (λ e q. absurd (let z : ◌≡◌ {A = ℕ} 0 1 = cc in omega arith)) (λ n c r p d k q. absurd (let z : ◌≡◌ {A = ℕ} 0 1 = cc in omega arith)) go
    where
      go : (at ≡ length s → ⊥) → (y : FileCause) → parse room (drop at s) ≡ refused y → ◌≡◌ {A = Reading} (Err (record { cause = y; offset = at })) (Err (record { cause = x; offset = o })) →
          (calls_in room (drop at s) ≡ stop (drop at s) x) × (o ≡ at)
      go ne y p q =
          let same : ◌≡◌ {A = FileRefusal} (record { cause = y; offset = at }) (record { cause = x; offset = o }) = cc in
          let some : 0 < length (drop at s) = rw length-drop (omega arith) in
          (calls-stop room (drop at s) some (p ∙ ap (λ (r : FileRefusal). refused r.cause) same), sym (ap (λ (r : FileRefusal). r.offset) same))

-- the file's end leaves the series buffer as it was
pub end-keeps : (s : List ℕ) (at : ℕ) (series : List ℕ) → read_at s at (length series) ≡ Ok None → series_after s at series ≡ series
end-keeps s at series e = rw (drop_of_length-le s {i = at} (omega (arith, reader-end s at (length series) e)), decode-none)

-- and so does a refusal
pub reader-keeps : (s : List ℕ) (at : ℕ) (series : List ℕ) {r : FileRefusal} → read_at s at (length series) ≡ Err r → series_after s at series ≡ series
reader-keeps s at series {r} =
    readings s at (length series) (λ (t : Reading). t ≡ Err r → series_after s at series ≡ series)
    (λ e q. absurd (let z : ◌≡◌ {A = ℕ} 0 1 = cc in omega arith)) (λ n c l p d k q. absurd (let z : ◌≡◌ {A = ℕ} 0 1 = cc in omega arith)) (λ n y p q. rw p)

submitted : {k : ℕ} (f : List ℕ) {d : DeskCall} → k ≡ submission → call_of k f ≡ Some d → d ≡ Submit (record { 0 = get_or f 0 0 }) (record { 0 = get_or f 1 0 }) (record { 0 = get_or f 2 0 })
unfolding call_of later_call_of
submitted f {d} e q =
    let z : call_of submission f ≡ Some (Submit (record { 0 = get_or f 0 0 }) (record { 0 = get_or f 1 0 }) (record { 0 = get_or f 2 0 })) = refl in
    cc

-- and every call that is no submission, of which no energies are counted
pub others-keep : (s : List ℕ) (at : ℕ) (series : List ℕ) {read : CallRead} → read_at s at (length series) ≡ Ok (Some read) →
    ((point : PointNo) (version : Version) (day : Day) → read.call ≡ Submit point version day → ⊥) → (series_after s at series ≡ series) × (read.count ≡ 0)
others-keep s at series {read} =
    readings s at (length series) (λ (r : Reading). r ≡ Ok (Some read) → ((point : PointNo) (version : Version) (day : Day) → read.call ≡ Submit point version day → ⊥) → (series_after s at series ≡ series) × (read.count ≡ 0))
    (λ e q. absurd (let z : ◌≡◌ {A = ℕ} 0 1 = cc in omega arith)) go (λ n x p q. absurd (let z : ◌≡◌ {A = ℕ} 0 1 = cc in omega arith))
  where
    go : (at ≡ length s → ⊥) → (c : Sent) (r : List ℕ) → parse (length series) (drop at s) ≡ got c r → (e : DeskCall) → call_of c.kind (padded c.fields) ≡ Some e →
        ◌≡◌ {A = Reading} (Ok (Some (record { call = e; groups = groups_of (padded c.fields); count = length c.energies; next = length s - length r }))) (Ok (Some read)) →
        ((point : PointNo) (version : Version) (day : Day) → read.call ≡ Submit point version day → ⊥) → (series_after s at series ≡ series) × (read.count ≡ 0)
    go ne c r p e k q other =
        let same : ◌≡◌ {A = CallRead} (record { call = e; groups = groups_of (padded c.fields); count = length c.energies; next = length s - length r }) read = cc in
        let named : call_of c.kind (padded c.fields) ≡ Some read.call = k ∙ ap (λ (x : CallRead). Some x.call) same in
        let none : c.energies ≡ [] = (parse-read (length series) (drop at s) p).carried.alone (ne_eqb c.kind submission (λ y. other _ _ _ (submitted (padded c.fields) y named))) in
        (rw (p, none), sym (ap (λ (x : CallRead). x.count) same) ∙ rw none)
