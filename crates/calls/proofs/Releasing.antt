-- A release on the code's calls is one on the calls they stand for, and what it prints is short.
use Prim.{tt}
use Prim.Native.Nat.{ℕ, ◌+◌, ◌*◌, ◌≤◌}
use mathlib.Core.Path.{◌≡◌, refl, sym, ap, ◌∙◌, subst}
use mathlib.Core.Logic.{⊎_elim}
use mathlib.Core.Bool.{true, not}
use mathlib.Core.List.{List, ◌∷◌, ◌++◌, map}
use Rattle.std.specs.Prelude.{None, Some}
use native.Mathlib.Omega.{arith}
use lib.ListN.{length, take, drop, length-append, length-map}
use lib.Seq.{take_at}
use Rattle.std.specs.Prelude.{Result}
use Rattle.laws.specs.Answer.{Answer, refused, answered, Kept}
use Rattle.refusals.specs.declared.Refusal.{Refusal}
use Rattle.refusals.specs.Refusal.{answer_as}
use Rattle.decimal.specs.Print.{digits_of}
use Rattle.laws.specs.Lists.{list_all}
use Rattle.rules.specs.Entry.{is_sample}
use Rattle.rules.specs.declared.entry.Entry.{Entry}
use Rattle.rules.specs.State.{State}
use Rattle.rules.specs.declared.state.ReleaseCounts.{ReleaseCounts}
use Rattle.rules.specs.declared.view.Pair.{Pair}
use Rattle.rules.specs.declared.view.DigestRow.{DigestRow}
use Rattle.rules.specs.Offer.{refusal}
use Rattle.rules.specs.Release.{View, Outcome, malformed, released_if, release_refusal, release, work_of}
use Rattle.rules.specs.Run.{place_of, said_release, written}
use Rattle.rules.specs.Claim.{outcome_of}
use Rattle.rules.proofs.Stays.{release_cases, released_stays}
use Rattle.rules.proofs.Conserve.{OnlySamples, only_samples}
use Rattle.release.specs.Released.{count_out, release_to, view_of}
use Rattle.call_line.specs.declared.line.Line.TheVariants as L
use Rattle.calls.specs.Run.{Calls, rows_of, refused_text, samples_text, counts_text, out_text, release_text, run_call}
use Rattle.calls.specs.Said.{Said, places_text}
use Rattle.calls.specs.Narrow.{wide, Narrow}
use Rattle.calls.specs.Runs.{Stands, Ran}
use Rattle.calls.proofs.Standing.{calls_of, every_stands, history_stands}
use Rattle.decimal.proofs.Lengths.{printed_long}
use Rattle.calls.proofs.Running.{ran_said, refused_long}
use Rattle.calls.proofs.Narrowing.{out_narrow, release_narrow}
use Rattle.calls.proofs.Places.{places_text_lem}

-- what a release says: its count, the state, the lent list
abbrev pub Told : Type 0
Told = Answer ℕ × State ℕ × List ℕ

abbrev Says : Told → List ℕ → Answer (Outcome ℕ) × State ℕ → Type 0
Says x l r = x ≡ (count_out r.0, r.1, written (said_release r.0) l)

-- the release of the calls
abbrev release_of : Calls → ℕ → Answer (Outcome ℕ) × State ℕ
release_of c now = release c.history (rows_of c) now 256

module _ (now : ℕ) (l : List ℕ) {c : Calls} {h : State ℕ} {ps : List Pair} {ds : List DigestRow} (s : Stands c (calls_of h ps ds)) (j : length l ≡ 256) where
  same_rows : view_of ps ds ≡ rows_of c → Says (release_to h (view_of ps ds) now l) l (release_of c now)
  unfolding release_to
  same_rows q = rw (s.history, q, j)

  both_malformed : malformed (view_of ps ds) ≡ true → malformed (rows_of c) ≡ true → Says (release_to h (view_of ps ds) now l) l (release_of c now)
  unfolding release_to release release_refusal refusal
  both_malformed m k = rw (s.history, m, k)

  -- it is the release on their rows
  stands_release : {x : Told} → x ≡ release_to h (view_of ps ds) now l → Says x l (release_of c now)
  unfolding rows_of
  stands_release e = e ∙ ⊎_elim (λ q. same_rows q) (λ m. both_malformed m.0 m.1) s.rows

-- ---- what is handed out

record Handed (l : List (Entry ℕ)) : Type 0 where
  samples : list_all (λ e. is_sample e) l ≡ true
  narrow : list_all (λ e. not (wide e)) l ≡ true

handed : (s : State ℕ) (v : View) (now room : ℕ) → Narrow s → Handed (outcome_of (release s v now room).0).out
unfolding OnlySamples work_of
handed s v now room n =
    release_cases (λ r t. Handed r.out) s v now room
    (record { samples = refl; narrow = refl })
    (record { samples = (released_stays OnlySamples only_samples s v now (refl, refl)).0; narrow = out_narrow s v now n })

-- the places of an answered release
record Places (n : ℕ) (places : List ℕ) (l : List (Entry ℕ)) : Type 0 where
  many : n ≤ 256
  count : n ≡ length l
  are : take n places ≡ map (λ e. place_of e) l

counts_long : (c : ReleaseCounts) → length (counts_text c) ≤ 86
unfolding counts_text
counts_long c =
    let a : List ℕ = 32 ∷ 124 ∷ 32 ∷ digits_of c.skipped_after_timeout in
    let b : List ℕ = 32 ∷ digits_of c.incomplete_sets in
    let d : List ℕ = 32 ∷ digits_of c.discarded_samples in
    let e : List ℕ = 32 ∷ digits_of c.late_samples in
    omega (arith, length-append (a ++ b ++ d) e, length-append (a ++ b) d, length-append a b, printed_long c.skipped_after_timeout, printed_long c.incomplete_sets, printed_long c.discarded_samples, printed_long c.late_samples)

-- an answered release: its count, its places and what is printed of them
module _ (l : List ℕ) {n : ℕ} {t : State ℕ} {places : List ℕ} (k : length places ≡ 256) where
  wrote : (a : Answer (Outcome ℕ)) (u : State ℕ) → Says (answered n, t, places) l (a, u) → Places n places (outcome_of a).out
  wrote (refused m) u e =
      let f : answered n ≡ refused m = ap (λ x. x.0) e in
      let z : ◌≡◌ {A = ℕ} 0 1 = cc in
      absurd (omega arith)
  wrote (answered r) u e =
      let f : answered n ≡ answered (length r.out) = ap (λ x. x.0) e in
      let h : n ≡ length r.out = cc in
      let p : places ≡ map (λ x. place_of x) r.out ++ drop (length r.out) l = ap (λ x. x.2) e in
      let m : length (map (λ x. place_of x) r.out) ≡ length r.out = length-map r.out (λ x. place_of x) in
      let q : length places ≡ length (map (λ x. place_of x) r.out) + length (drop (length r.out) l) = ap length p ∙ length-append (map (λ x. place_of x) r.out) (drop (length r.out) l) in
      record {
        many = omega (arith, h, m, q, k);
        count = h;
        are = ap (λ (x : List ℕ). take n x) p ∙ take_at (map (λ x. place_of x) r.out) (drop (length r.out) l) n (m ∙ sym h);
      }

  out_text_lem : (a : Answer (Outcome ℕ)) (u : State ℕ) (c : ReleaseCounts) → Says (answered n, t, places) l (a, u) → Handed (outcome_of a).out
      → ((111 ∷ 117 ∷ 116 ∷ places_text (take n places) ++ counts_text c) ≡ release_text a c) × (length (places_text (take n places)) ≤ 15 * 256)
  unfolding out_text
  out_text_lem (refused m) u c e h =
      let f : answered n ≡ refused m = ap (λ x. x.0) e in
      let z : ◌≡◌ {A = ℕ} 0 1 = cc in
      absurd (omega arith)
  out_text_lem (answered r) u c e h =
      let w = wrote (answered r) u e in
      let b = places_text_lem r.out h.samples h.narrow in
      let p : places_text (take n places) ≡ samples_text r.out = ap (λ (x : List ℕ). places_text x) w.are ∙ b.0 in
      (ap (λ (x : List ℕ). 111 ∷ 117 ∷ 116 ∷ x ++ counts_text c) p, omega (arith, ap length p, b.1, w.many, w.count))

-- ---- a release run

release_kept : (s : State ℕ) (v : View) (now room : ℕ) → Kept (release s v now room).0 s (release s v now room).1
unfolding release Kept
release_kept s v now room =
    elim (release_refusal s v room) as (λ r. Kept (released_if r s v now).0 s (released_if r s v now).1) [ Some n ↦ refl | None ↦ tt ]

-- what a refused release leaves
left_as : (now : ℕ) (c : Calls) (h h' : State ℕ) → h ≡ c.history → h' ≡ (release_of c now).1 → Kept (release_of c now).0 h h'
left_as now c h h' t q =
    subst (λ y. Kept (release_of c now).0 y h') (sym t) (subst (λ y. Kept (release_of c now).0 c.history y) (sym q) (release_kept c.history (rows_of c) now 256))

ran_release : (l : List ℕ) {n now : ℕ} {a : Answer ℕ} {h h' : State ℕ} {ps : List Pair} {ds : List DigestRow} {s places out out' : List ℕ}
    → length l ≡ 256 → ◌≡◌ {A = Told} (a, h', places) (release_to h (view_of ps ds) now l) → Said n s out out' → length s ≤ 3929
    → ((c : Calls) → Stands c (calls_of h ps ds) → Says (a, h', places) l (release_of c now) → s ≡ release_text (release_of c now).0 (release_of c now).1.counts)
    → Ran n (Some (L.Release now)) (calls_of h ps ds) (calls_of h' ps ds) out out'
unfolding run_call rows_of
ran_release l {now = now} {h = h} {h' = h'} j e x long g =
    ran_said x long
    (λ c t. history_stands (ap (λ (y : Told). y.1) (stands_release now l t j e)) t)
    (λ c t. (left_as now c h h' t.history (ap (λ (y : Told). y.1) (stands_release now l t j e)), refl))
    (λ c t. g c t (stands_release now l t j e))

-- the places fit the list
pub wrote_within : (l : List ℕ) (now : ℕ) (h : State ℕ) (ps : List Pair) (ds : List DigestRow) {h' : State ℕ} {n : ℕ} {places : List ℕ}
    → length l ≡ 256 → length places ≡ 256 → ◌≡◌ {A = Told} (answered n, h', places) (release_to h (view_of ps ds) now l) → n ≤ 256
wrote_within l now h ps ds j k e =
    let c = calls_of h ps ds in
    (wrote l k (release_of c now).0 (release_of c now).1 (stands_release now l (every_stands c) j e)).many

pub ran_released : (l : List ℕ) {m n now : ℕ} {k : ReleaseCounts} {h h' : State ℕ} {ps : List Pair} {ds : List DigestRow} {places out out' : List ℕ}
    → length l ≡ 256 → length places ≡ 256 → ◌≡◌ {A = Told} (answered n, h', places) (release_to h (view_of ps ds) now l) → Narrow h
    → k ≡ h'.counts → Said m (111 ∷ 117 ∷ 116 ∷ places_text (take n places) ++ counts_text k) out out'
    → Ran m (Some (L.Release now)) (calls_of h ps ds) (calls_of h' ps ds) out out'
ran_released l {m} {n} {now} {k} {h} {h'} {ps} {ds} {places} j z e w q x =
    let text : (c : Calls) → Stands c (calls_of h ps ds) → ((111 ∷ 117 ∷ 116 ∷ places_text (take n places) ++ counts_text k) ≡ release_text (release_of c now).0 k) × (length (places_text (take n places)) ≤ 15 * 256) =
    λ c s. out_text_lem l z (release_of c now).0 (release_of c now).1 k (stands_release now l s j e) (handed c.history (rows_of c) now 256 (subst (λ y. Narrow y) s.history w)) in
    ran_release l j e x (omega (arith, (text (calls_of h ps ds) (every_stands (calls_of h ps ds))).1, counts_long k, length-append (111 ∷ 117 ∷ 116 ∷ places_text (take n places)) (counts_text k)))
    (λ c s f. (text c s).0 ∙ ap (λ (z : ReleaseCounts). release_text (release_of c now).0 z) (q ∙ ap (λ (y : Told). y.1.counts) f))

refusal_text : (n : ℕ) (a : Answer (Outcome ℕ)) (c : ReleaseCounts) → refused n ≡ count_out a → refused_text n ≡ release_text a c
refusal_text n (refused m) c e = let h : n ≡ m = cc in ap refused_text h
refusal_text n (answered r) c e = let z : ◌≡◌ {A = ℕ} 0 1 = cc in absurd (omega arith)

pub ran_refused : (l : List ℕ) {m n now : ℕ} {h h' : State ℕ} {ps : List Pair} {ds : List DigestRow} {places out out' : List ℕ}
    → length l ≡ 256 → ◌≡◌ {A = Told} (refused n, h', places) (release_to h (view_of ps ds) now l) → Said m (refused_text n) out out'
    → Ran m (Some (L.Release now)) (calls_of h ps ds) (calls_of h' ps ds) out out'
ran_refused l {m} {n} {now} j e x =
    ran_release l j e x (omega (arith, refused_long n))
    (λ c s f. refusal_text n (release_of c now).0 (release_of c now).1.counts (ap (λ (y : Told). y.0) f))

-- ---- as the code has it

pub told_by : (h : State ℕ) (now : ℕ) (l : List ℕ) {r q : Result ℕ Refusal} {h' : State ℕ} {ps qs : List Pair} {ds es : List DigestRow} {places : List ℕ}
    → r ≡ q → ps ≡ qs → ds ≡ es → ◌≡◌ {A = Told} (answer_as r, h', places) (release_to h (view_of ps ds) now l)
    → ◌≡◌ {A = Told} (answer_as q, h', places) (release_to h (view_of qs es) now l)
told_by h now l {r} {q} {h'} {ps} {qs} {ds} {es} {places} a b c e =
    ap (λ x. (answer_as x, h', places)) (sym a) ∙ e ∙ ap (λ x. release_to h (view_of x ds) now l) b ∙ ap (λ x. release_to h (view_of qs x) now l) c

pub narrow_after : (h : State ℕ) (v : View) (now : ℕ) (l : List ℕ) {a : Answer ℕ} {h' : State ℕ} {places : List ℕ}
    → ◌≡◌ {A = Told} (a, h', places) (release_to h v now l) → Narrow h → Narrow h'
unfolding release_to
narrow_after h v now l e n = subst (λ s. Narrow s) (sym (ap (λ (y : Told). y.1) e)) (release_narrow h v now (length l) n)
