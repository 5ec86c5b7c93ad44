-- The book after a change of a point's versions, on a desk in any state: each number follows what its run takes of the point. Assumes nothing.
use Prim.Native.Nat.{ℕ, ◌+◌, ◌-◌, ◌*◌, ◌^◌, ◌≤◌, ◌<◌}
use mathlib.Core.Path.{◌≡◌, refl, sym, ap, ◌∙◌, subst}
use mathlib.Core.Bool.{Bool, true, false, cond, not}
use mathlib.Core.List.{List, [], ◌∷◌, map}
use native.Mathlib.Omega.{arith}
use borrow.Author.Tests.{leb-false, ltb-true, ltb-false, eqb-true, not-false}
use lib.Dec.{leb, ltb, eqb}
use lib.IntN.{ℤ, pos, ◌+ℤ◌, ◌-ℤ◌, +ℤ_idr}
use lib.ListN.{length, get_or, length-append, length-map, get_or-append, get_or-map, get_or-eq_default}
use lib.Seq.{length-take-le}
use Rattle.quantity.specs.Limits.{points, runs, book_rows, point_ok, version_ok, day_ok}
use Rattle.quantity.specs.Word.{word, signed}
use Rattle.quantity.proofs.Tests.{and-left, and-right, or-left, or-right, within-low}
use Rattle.quantity.proofs.Words.{word-signed, word-below}
use Rattle.book.specs.Place.{row_start}
use Rattle.book.specs.Row.{splice}
use Rattle.book.proofs.Rows.{splice-in, splice-before, splice-after, length-splice}
use Rattle.state.specs.Change.{submitted, noticed}
use Rattle.state.specs.Desk.{versions_in, rows_used}
use Rattle.state.specs.Groups.{groups_in}
use Rattle.state.specs.Point.{free_point, point_at}
use Rattle.state.specs.Selection.{selected}
use Rattle.state.specs.Valid.{state_ok, deltas_ok, valid_desk}
use Rattle.state.specs.Version.{empty_version, record_at}
use Rattle.state.specs.declared.PerRun.{PerRun}
use Rattle.state.specs.declared.Desk.{Desk}
use Rattle.state.specs.declared.PointState.{PointState}
use Rattle.state.specs.declared.Selection.{Selection}
use Rattle.state.specs.declared.Selection.TheVariants.{None, Selected}
use Rattle.state.specs.declared.VersionRecord.{VersionRecord}
use Rattle.state.proofs.Bounds.{deltas-in, sound}
use Rattle.state.proofs.Kept.{submitted-versions, noticed-versions}
use Rattle.state.proofs.Limits.{means-valid}
use Rattle.model.specs.Call.{submits, notices, Stores, lengths_of, all_but_schedules, Lent, told}
use Rattle.model.specs.Causes.{other_lengths, submit_ok, notice_ok, rules}
use Rattle.model.specs.Laws.{SameRow}
use Rattle.model.specs.Series.{sides_of, adds}
use Rattle.model.specs.Step.{amend_run, amended, version_by, lines, refusal_by, decided, step}
use Rattle.model.specs.Takes.{Line, Words, Amends, AmendsBook, in_rows}
use Rattle.model.specs.View.{view_of}
use Rattle.model.specs.declared.Sides.{Sides}
use Rattle.model.proofs.Amends.{amend-run}
use Rattle.model.proofs.Books.{Figures, Booked, Holding}
use Rattle.model.proofs.CauseLaws.{accepted-passed}
use Rattle.model.proofs.Figures.{state-in}
use Rattle.model.proofs.Lists.{snoc-at}
use Rattle.model.proofs.Restating.{same-row}
use Rattle.model.proofs.Rules.{passed-fine, past}
use Rattle.model.proofs.Selections.{Sited, selected-sited, noticed-restated, restated-length}
use Rattle.model.proofs.SeriesTable.{in-book, shaped, adds-minus, series-adds}
use Rattle.model.proofs.Takes.{read_by, takes-first, takes-second, point-at}

module _ (q : ℕ) (values : List ℕ) (in_v : Words values) where
  -- a selection's row of values has what is read of it
  holds-read : (us : List VersionRecord) → ((i : ℕ) → i < length us → (record_at us i).row.0 * q + q ≤ length values) → (s : Selection) → Sited us s → Holding q values s (λ (j : ℕ). read_by (in_rows q values us j) s)
  holds-read us room None w = λ j. refl
  holds-read us room (Selected r) w =
      record {
        fits = omega (arith, room r.at w.0, ap (λ (n : ℕ). n * q) w.1);
        words = λ j l. ap (λ (n : ℕ). get_or values (n * q + j) 0) (sym w.1) ∙ sym (word-signed (get_or values ((record_at us r.at).row.0 * q + j) 0) (in_v ((record_at us r.at).row.0 * q + j)));
      }

module _ (q : ℕ) (gs : PerRun (List ℕ)) (in_g : deltas_ok gs ≡ true) (here : PointState) (in_here : state_ok here ≡ true) (p : ℕ) (vs ws : List VersionRecord) (few : length vs ≤ length ws)
    (rows : (i : ℕ) → i < length vs → (record_at ws i).row.0 ≡ (record_at vs i).row.0) (values : List ℕ) (in_v : Words values)
    (room : (i : ℕ) → i < length ws → (record_at ws i).row.0 * q + q ≤ length values) (book : List ℕ) (in_b : Words book) (size : length book ≡ book_rows * q) where
  -- the book as it is read
  there : Figures
  there = λ run k j. signed (get_or book (row_start q run k + j) 0)

  sides : (run : ℕ) → Sides
  sides run = sides_of (groups_in run gs) here

  old : (run j : ℕ) → ℤ
  old run j = read_by (in_rows q values vs j) (selected run p vs)

  new : (run j : ℕ) → ℤ
  new run j = read_by (in_rows q values ws j) (selected run p ws)

  same-read : (s t : Selection) → Sited vs s → SameRow s t → (j : ℕ) → read_by (in_rows q values vs j) s ≡ read_by (in_rows q values ws j) t
  same-read None None w e j = refl
  same-read None (Selected t) w e j = absurd e
  same-read (Selected r) None w e j = absurd e
  same-read (Selected r) (Selected t) w e j =
      ap (λ (n : ℕ). signed (get_or values (n * q + j) 0)) (sym (rows r.at w.0))
      ∙ ap (in_rows q values ws j) e.0

  run-follows : (run : ℕ) → 1 ≤ run → run ≤ runs → (l : List ℕ) (F : Figures) → Booked q l F
      → Booked q (amend_run run q (sides run) (selected run p vs) (selected run p ws) values l) (λ r m j. F r m j +ℤ cond (eqb run r) (adds (sides run) m (new run j -ℤ old run j)) (pos 0))
  unfolding sides old new
  run-follows run lo hi l F B =
      let S = shaped here in_here in
      amend-run q run lo hi (sides run) (in-book (groups_in run gs) (deltas-in gs in_g run) S.to) (in-book (groups_in run gs) (deltas-in gs in_g run) S.from) values (selected run p vs) (selected run p ws) (old run) (new run)
      (holds-read q values in_v vs (λ i z. omega (arith, room i (omega arith), ap (λ (n : ℕ). n * q) (rows i z))) (selected run p vs) (selected-sited run p vs))
      (holds-read q values in_v ws room (selected run p ws) (selected-sited run p ws))
      (λ e j. same-read (selected run p vs) (selected run p ws) (selected-sited run p vs) e j) l F B

  -- a change of what is taken, by the lines of the table
  change : (run k j : ℕ) (a b x y o u : ℤ) → a ≡ old run j → b ≡ new run j → Line (groups_in run gs) k a here x o → Line (groups_in run gs) k b here y u
      → adds (sides run) k (new run j -ℤ old run j) ≡ y -ℤ x
  unfolding sides
  change run k j a b x y o u ea eb la lb =
      ap (adds (sides run) k) (cc (ea, eb)) ∙ adds-minus (sides run) k b a ∙ cc (series-adds (groups_in run gs) k a la, series-adds (groups_in run gs) k b lb)

  pub amends : Amends q gs here p vs ws values book (amended q gs here p vs ws values book)
  unfolding amended sides old new there
  amends =
      let both : Booked q (amended q gs here p vs ws values book) (λ r m j. there r m j +ℤ cond (eqb 1 r) (adds (sides 1) m (new 1 j -ℤ old 1 j)) (pos 0) +ℤ cond (eqb 2 r) (adds (sides 2) m (new 2 j -ℤ old 2 j)) (pos 0)) =
      run-follows 2 (omega arith) (omega arith) _ _
      (run-follows 1 (omega arith) (omega arith) book there (record { size = size; at = λ run k j _ _ _ _. sym (word-signed (get_or book (row_start q run k + j) 0) (in_b (row_start q run k + j))) })) in
      record {
        first = λ k j c z a b ta tb x y o u la lb.
            let at : row_start q 1 k + j ≡ k * q + j = omega arith in
            rw (← at)
            (both.at 1 k j (omega arith) (omega arith) c z
            ∙ ap word (+ℤ_idr (there 1 k j +ℤ adds (sides 1) k (new 1 j -ℤ old 1 j)) ∙ ap (λ (e : ℤ). there 1 k j +ℤ e) (change 1 k j a b x y o u (takes-first vs (in_rows q values vs j) p a ta) (takes-first ws (in_rows q values ws j) p b tb) la lb)));
        second = λ k j c z a b ta tb x y o u la lb.
            let at : row_start q 2 k + j ≡ (81 + k) * q + j = omega arith in
            rw (← at)
            (both.at 2 k j (omega arith) (omega arith) c z
            ∙ ap word (ap (λ (e : ℤ). e +ℤ adds (sides 2) k (new 2 j -ℤ old 2 j)) (+ℤ_idr (there 2 k j)) ∙ ap (λ (e : ℤ). there 2 k j +ℤ e) (change 2 k j a b x y o u (takes-second vs (in_rows q values vs j) p a ta) (takes-second ws (in_rows q values ws j) p b tb) la lb)));
        size = both.size ∙ sym size;
      }

-- ---- an accepted submission and an accepted notice, whatever desk and stores; the table of a desk has its 512 places

module _ (d : Desk) (s : Stores) (table : length d.versions ≡ 512) (in_v : Words s.values) (in_b : Words s.book) (valid : valid_desk d ≡ true)
    (lengths : other_lengths all_but_schedules (lengths_of s) d.frame.opening ≡ false) where
  values-long : length s.values ≡ d.frame.opening.values
  unfolding other_lengths
  values-long = eqb-true (length s.values) d.frame.opening.values (not-false _ (or-left _ _ lengths))

  book-long : length s.book ≡ book_rows * d.frame.opening.quarters
  unfolding other_lengths
  book-long =
      eqb-true (length s.book) d.frame.opening.book (not-false _ (or-left _ _ (or-right (not (eqb (length s.values) d.frame.opening.values)) _ lengths)))
      ∙ (sound d valid).book

  count-held : length (versions_in d) ≡ d.frame.count
  count-held = length-take-le d.frame.count d.versions (omega (arith, table, (sound d valid).count))

  row-fits : (i : ℕ) → i < length (versions_in d) → (record_at (versions_in d) i).row.0 * d.frame.opening.quarters + d.frame.opening.quarters ≤ d.frame.opening.values
  row-fits i z = omega (arith, (((means-valid d).holds valid).1.1 i z).1.1)

  followed-amends : (p : ℕ) → 1 ≤ p → (ws : List VersionRecord) → length (versions_in d) ≤ length ws → ((i : ℕ) → i < length (versions_in d) → (record_at ws i).row.0 ≡ (record_at (versions_in d) i).row.0)
      → (values : List ℕ) → Words values → ((i : ℕ) → i < length ws → (record_at ws i).row.0 * d.frame.opening.quarters + d.frame.opening.quarters ≤ length values)
      → Amends d.frame.opening.quarters d.frame.groups (get_or d.points (p - 1) free_point).state p (versions_in d) ws values s.book
      (amended d.frame.opening.quarters d.frame.groups (point_at d.points p) p (versions_in d) ws values s.book)
  followed-amends p lo ws few rows values words room =
      subst (λ (t : PointState). Amends d.frame.opening.quarters d.frame.groups t p (versions_in d) ws values s.book
      (amended d.frame.opening.quarters d.frame.groups (point_at d.points p) p (versions_in d) ws values s.book)) (point-at d.points p lo)
      (amends d.frame.opening.quarters d.frame.groups (sound d valid).groups (point_at d.points p) (state-in d.points (sound d valid).points p) p (versions_in d) ws few rows values words room s.book in_b book-long)

-- a store in which words were put
words-spliced : (l r : List ℕ) (a q : ℕ) → a + q ≤ length l → length r ≡ q → Words l → Words r → Words (splice l a q r)
words-spliced l r a q fits full in_l in_r i = go (ltb i a) refl (ltb i (a + q)) refl
  where
    go : (t : Bool) → ltb i a ≡ t → (u : Bool) → ltb i (a + q) ≡ u → get_or (splice l a q r) i 0 < 2 ^ 64
    go true x u y = rw (splice-before l r a q fits full i 0 (ltb-true i a x)) (in_l i)
    go false x true y =
        let low = ltb-false i a x in
        let at : i ≡ a + (i - a) = omega arith in
        subst (λ (n : ℕ). n < 2 ^ 64) (sym (ap (λ (n : ℕ). get_or (splice l a q r) n 0) at ∙ splice-in l r a q fits full (i - a) 0 (omega (arith, ltb-true i (a + q) y)))) (in_r (i - a))
    go false x false y = rw (splice-after l r a q fits full i 0 (ltb-false i (a + q) y)) (in_l i)

words-of : (es : List ℤ) → Words (map word es)
unfolding word
words-of es i = subst (λ (n : ℕ). n < 2 ^ 64) (sym (get_or-map word es i (pos 0))) (word-below (get_or es i (pos 0)))

-- each row lies within the values, one that is added too
rows-fit : (q n : ℕ) (vs : List VersionRecord) (v : VersionRecord) → ((i : ℕ) → i < length vs → (record_at vs i).row.0 * q + q ≤ n) → v.row.0 * q + q ≤ n
    → (i : ℕ) → (record_at (submitted v vs) i).row.0 * q + q ≤ n
rows-fit q n vs v each last i = snoc-at vs v empty_version i (λ (u : VersionRecord). u.row.0 * q + q ≤ n) (go (ltb i (length vs)) refl) last (omega (arith, last))
  where
    go : (t : Bool) → ltb i (length vs) ≡ t → (record_at vs i).row.0 * q + q ≤ n
    go true z = each i (ltb-true i (length vs) z)
    go false z = rw (get_or-eq_default vs empty_version (ltb-false i (length vs) z)) (omega (arith, last))

pub submits-amends : (d : Desk) (s : Stores) (p x day : ℕ) (es : List ℤ) → AmendsBook d s p (submits p x day es)
unfolding step decided refusal_by
submits-amends d s p x day es table in_v in_b e =
    let l : Lent = record { call = submits p x day es; stores = s } in
    let P = accepted-passed d l e in
    let Q = d.frame.opening.quarters in
    let o = d.frame.opening in
    let m = rows_used d.frame in
    let vs = versions_in d in
    let new = version_by d p x day in
    let valid = not-false (valid_desk d) P.0 in
    let n = count-held d s table in_v in_b valid P.1.1.0 in
    let fields = not-false (submit_ok p x day Q es) (past 3 (rules (view_of d) (lengths_of s) (submits p x day es)) P.1) in
    let series = and-right (day_ok day) _ (and-right (version_ok x) _ (and-right (point_ok p) _ fields)) in
    let full : length (map word es) ≡ Q = length-map es word ∙ eqb-true (length es) Q (and-left (eqb (length es) Q) _ series) in
    let free = past 16 (rules (view_of d) (lengths_of s) (submits p x day es)) P.1 in
    let below : length vs < 512 = leb-false 512 (length vs) (or-left _ _ free) in
    let long = values-long d s table in_v in_b valid P.1.1.0 in
    let fits : m * Q + Q ≤ o.values = omega (arith, n, ltb-false o.values ((length vs + 1) * Q) (or-right (leb 512 (length vs)) _ free), ap (λ (i : ℕ). i * Q) n) in
    let store = splice s.values (m * Q) Q (map word es) in
    let kept = length-splice s.values (map word es) (m * Q) Q (omega (arith, long)) full in
    rw (passed-fine (lines d (told l)) P, submitted-versions d new (omega (arith, n, table)))
    (followed-amends d s table in_v in_b valid P.1.1.0 p (within-low 1 points p (and-left (point_ok p) _ fields)) (submitted new vs) (omega (arith, length-append vs (new ∷ [])))
    (λ i z. ap (λ (v : VersionRecord). v.row.0) (get_or-append vs (new ∷ []) empty_version i z)) store
    (words-spliced s.values (map word es) (m * Q) Q (omega (arith, long)) full in_v (words-of es))
    (λ i _. rw kept (rows-fit Q (length s.values) vs new (λ j z. omega (arith, long, row-fits d s table in_v in_b valid P.1.1.0 j z)) (omega (arith, long)) i)))

pub notices-amends : (d : Desk) (s : Stores) (p x y day : ℕ) → AmendsBook d s p (notices p x y day)
unfolding step decided refusal_by
notices-amends d s p x y day table in_v in_b e =
    let l : Lent = record { call = notices p x y day; stores = s } in
    let P = accepted-passed d l e in
    let Q = d.frame.opening.quarters in
    let vs = versions_in d in
    let ws = noticed d.frame.opening.clearing.0 p x y day vs in
    let same = noticed-restated d.frame.opening.clearing.0 p x y day vs in
    let valid = not-false (valid_desk d) P.0 in
    let fields = not-false (notice_ok p x y day) (past 3 (rules (view_of d) (lengths_of s) (notices p x y day)) P.1) in
    let fewer = restated-length vs ws same in
    rw (passed-fine (lines d (told l)) P, noticed-versions d p x y day (omega (arith, table, (sound d valid).count)))
    (followed-amends d s table in_v in_b valid P.1.1.0 p (within-low 1 points p (and-left (point_ok p) _ fields)) ws (omega (arith, fewer)) (λ i _. same-row vs ws same i) s.values in_v
    (λ i z. omega (arith, same-row vs ws same i, ap (λ (n : ℕ). n * Q) (same-row vs ws same i), row-fits d s table in_v in_b valid P.1.1.0 i (omega (arith, fewer)), values-long d s table in_v in_b valid P.1.1.0)))
