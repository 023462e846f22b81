-- The source's gate and the definition, on one call and on every list of calls.
use Prim.Native.Nat.{ℕ, suc, ◌+◌, ◌/◌}
use mathlib.Core.Path.{◌≡◌, refl, sym, ap, ◌∙◌}
use mathlib.Core.Bool.{Bool, true, false, ◌&&◌, not, cond}
use mathlib.Core.List.{List, [], ◌∷◌, ◌++◌, map}
use Rattle.std.specs.Prelude.{Option, Some, None, Result}
use lib.IntN.{ℤ}
use lib.Dec.{ltb, leb, eqb}
use lib.ListN.{length}
use Rattle.laws.specs.Answer.{Answer, refused, answered}
use Rattle.laws.specs.Lists.{filter, list_all, count}
use Rattle.guids.specs.Guid.{Guid, same_guid}
use Rattle.laws.proofs.Lists.{and_true, and_left, and_right, all_keep, all_both, not_both}
use Rattle.coherent_hold.specs.Gate.{Kind, is_sample, is_lifecycle, is_end, Item, Effect, member_mark, is_member, leaves, same_mark, first_mark, count_is, passed, held_back, ended, followed, after, gated, hold_as, member_as}
use Rattle.coherent_hold.specs.Gate as D
use Rattle.refusals.specs.declared.Refusal.{Refusal}
use Rattle.coherent_hold.specs.declared.items.Change.{Change}
use Rattle.coherent_hold.specs.declared.items.Change.TheVariants as C
use Rattle.coherent_hold.specs.declared.items.Item as It
use Rattle.coherent_hold.specs.declared.items.Member.{Member}
use Rattle.coherent_hold.specs.declared.hold.CoherentHold.{CoherentHold}
use Rattle.coherent_hold.specs.declared.gate.Gated as Gd
use Rattle.gate_model.specs.Source.{UserSample, alive, lifecycle, coherent_member, with, is_released, put_first, release, first_member, numbers_agree, set_is_complete, Gated, passes, or_discard, follows, ends, holds_or, gate}
use Rattle.gate_model.specs.Claim.{sample_w, sample_of, is_full, gate_or, Call, held_after, answer_of, answers, run, kept_by, told_by, answers_by, run_by, SameRun, items_of, counted, held_in, CodeSame}

abbrev samples : List Item → List UserSample
samples l = map (λ i. sample_of i) l

-- ---- a member

abbrev member_of : Guid → Option ℤ → Option (Guid × ℤ)
member_of w None = None
member_of w (Some sn) = Some (w, sn)

marked : (w : Guid) (s : Option ℤ) → with w s ≡ member_of w s
marked w None = refl
marked w (Some z) = refl

member_k : (k : Kind) (i : Item) → i.kind ≡ k → coherent_member (sample_w k i) ≡ member_of i.writer (member_mark i)
member_k is_sample i e = marked i.writer i.set ∙ ap (λ k. member_of i.writer (cond (D.ends k) None i.set)) (sym e)
member_k is_lifecycle i e = marked i.writer i.set ∙ ap (λ k. member_of i.writer (cond (D.ends k) None i.set)) (sym e)
member_k (is_end o c) i e = ap (λ k. member_of i.writer (cond (D.ends k) None i.set)) (sym e)

member_same : (i : Item) → coherent_member (sample_of i) ≡ member_of i.writer (member_mark i)
unfolding sample_of
member_same i = member_k i.kind i refl

-- of a member the mark is its set
mark_k : (i : Item) (b : Bool) (s : Option ℤ) → D.present (cond b None s) ≡ true → cond b None s ≡ s
mark_k i true s h = not_both false h refl
mark_k i false s h = refl

mark_same : (i : Item) → is_member i ≡ true → member_mark i ≡ i.set
unfolding is_member
mark_same i h = mark_k i (D.ends i.kind) i.set h

-- ---- release

leaves_s : (w g : Guid) (n s : Option ℤ) → D.present s ≡ true → is_released w n (member_of g s) ≡ same_guid w g && not (same_mark n s)
leaves_s w g None None h = not_both false h refl
leaves_s w g (Some x) None h = not_both false h refl
leaves_s w g None (Some z) h = refl
leaves_s w g (Some x) (Some z) h = refl

set_present : (i : Item) → is_member i ≡ true → D.present i.set ≡ true
unfolding is_member
set_present i h = sym (ap (λ s. D.present s) (mark_same i h)) ∙ h

leaves_same : (w : Guid) (n : Option ℤ) (i : Item) → is_member i ≡ true → is_released w n (coherent_member (sample_of i)) ≡ leaves w n i
leaves_same w n i h = ap (λ u. is_released w n u) (member_same i ∙ ap (λ s. member_of i.writer s) (mark_same i h)) ∙ leaves_s w i.writer n i.set (set_present i h)

put_same : (b : Bool) (i : Item) (l m : List Item) → put_first b (sample_of i) (samples l, samples m) ≡ (samples (cond b (i ∷ l) l), samples (cond (not b) (i ∷ m) m))
put_same true i l m = refl
put_same false i l m = refl

release_same : (w : Guid) (n : Option ℤ) (l : List Item) → list_all (λ i. is_member i) l ≡ true → release w n (samples l) ≡ (samples (filter (λ h. leaves w n h) l), samples (filter (λ h. not (leaves w n h)) l))
unfolding release
release_same w n [] h = refl
release_same w n (i ∷ l) h =
    ap (λ b. put_first b (sample_of i) (release w n (samples l))) (leaves_same w n i (and_left (is_member i) _ h))
    ∙ ap (λ p. put_first (leaves w n i) (sample_of i) p) (release_same w n l (and_right (is_member i) _ h))
    ∙ put_same (leaves w n i) i (filter (λ h. leaves w n h) l) (filter (λ h. not (leaves w n h)) l)

-- ---- one call

abbrev as_gated : Effect → Gated
as_gated e = record { items = samples e.out; incomplete = e.incomplete; hold = samples e.hold }

samples_length : (l : List Item) → length (samples l) ≡ length l
samples_length [] = refl
samples_length (i ∷ l) = ap suc (samples_length l)

samples_snoc : (l : List Item) (i : Item) → samples l ++ (sample_of i ∷ []) ≡ samples (l ++ (i ∷ []))
samples_snoc [] i = refl
samples_snoc (j ∷ l) i = ap (λ r. sample_of j ∷ r) (samples_snoc l i)

numbers_same : (n : ℕ) (g : Guid) (s o : Option ℤ) → numbers_agree n (member_of g s) o ≡ count_is n s o
numbers_same n g None o = refl
numbers_same n g (Some z) None = refl
numbers_same n g (Some z) (Some y) = refl

first_same : (l : List Item) (o : Option ℤ) → list_all (λ i. is_member i) l ≡ true → numbers_agree (length (samples l)) (first_member (samples l)) o ≡ count_is (length l) (first_mark l) o
first_same [] o h = refl
first_same (i ∷ l) o h =
    ap (λ n. numbers_agree n (coherent_member (sample_of i)) o) (samples_length (i ∷ l))
    ∙ ap (λ u. numbers_agree (length (i ∷ l)) u o) (member_same i ∙ ap (λ s. member_of i.writer s) (mark_same i (and_left (is_member i) _ h)))
    ∙ numbers_same (length (i ∷ l)) i.writer i.set o

complete_same : (l : List Item) (o : Option ℤ) (c : Option Bool) → list_all (λ i. is_member i) l ≡ true → set_is_complete (samples l) o c ≡ D.set_is_complete l o c
complete_same l o (Some c) h = refl
complete_same l o None h = first_same l o h

discard_same : (b : Bool) (l m : List Item) → or_discard b (samples l, samples m) ≡ as_gated (ended b l m)
discard_same true l m = refl
discard_same false l m = ap (λ n. record { items = []; incomplete = Some n; hold = samples m }) (samples_length l)

module _ (i : Item) (l : List Item) (h : list_all (λ i. is_member i) l ≡ true) where
  abbrev out : List Item
  out = filter (λ h. leaves i.writer None h) l

  abbrev left : List Item
  left = filter (λ h. not (leaves i.writer None h)) l

  follow_snoc : samples out ++ (sample_w i.kind i ∷ []) ≡ samples (out ++ (i ∷ []))
  unfolding sample_of
  follow_snoc = samples_snoc out i

  follow_same : (k : Kind) → i.kind ≡ k → follows (sample_w k i) (samples out, samples left) ≡ as_gated (followed i out left)
  follow_same k e = ap (λ k. record { items = samples out ++ (sample_w k i ∷ []); incomplete = None; hold = samples left }) (sym e) ∙ ap (λ m. record { items = m; incomplete = None; hold = samples left }) follow_snoc

  ends_k : (k : Kind) → i.kind ≡ k → ends (sample_w k i) (samples l) ≡ as_gated (after k i out left)
  ends_k is_sample e = ap (λ p. follows (alive i.writer i.set i.item) p) (release_same i.writer None l h) ∙ follow_same is_sample e
  ends_k is_lifecycle e = ap (λ p. follows (lifecycle i.writer i.set i.item) p) (release_same i.writer None l h) ∙ follow_same is_lifecycle e
  ends_k (is_end o c) e =
      ap (λ p. or_discard (set_is_complete p.0 o c) p) (release_same i.writer None l h)
      ∙ ap (λ b. or_discard b (samples out, samples left)) (complete_same out o c (all_keep (λ i. is_member i) (λ h. leaves i.writer None h) l h))
      ∙ discard_same (D.set_is_complete out o c) out left

  abbrev samples_of_kind : Kind → List UserSample
  samples_of_kind k = samples (cond (D.ends k) [] (i ∷ []))

  passes_k : (k : Kind) → i.kind ≡ k → passes (sample_w k i) (samples l) ≡ as_gated (passed i l)
  unfolding sample_of
  passes_k is_sample e = ap (λ k. record { items = sample_w k i ∷ []; incomplete = None; hold = samples l }) (sym e) ∙ ap (λ k. record { items = samples_of_kind k; incomplete = None; hold = samples l }) (sym e)
  passes_k is_lifecycle e = ap (λ k. record { items = sample_w k i ∷ []; incomplete = None; hold = samples l }) (sym e) ∙ ap (λ k. record { items = samples_of_kind k; incomplete = None; hold = samples l }) (sym e)
  passes_k (is_end o c) e = ap (λ k. record { items = samples_of_kind k; incomplete = None; hold = samples l }) (sym e)

  whole_ends : ends (sample_of i) (samples l) ≡ as_gated (after i.kind i out left)
  unfolding sample_of
  whole_ends = ends_k i.kind refl

  whole_passes : passes (sample_of i) (samples l) ≡ as_gated (passed i l)
  unfolding sample_of
  whole_passes = passes_k i.kind refl

  is_member_lem : (z : ℤ) → member_mark i ≡ Some z → is_member i ≡ true
  unfolding is_member
  is_member_lem z e = ap (λ u. D.present u) e

  holds_k : (u : Option ℤ) → member_mark i ≡ u → holds_or (member_of i.writer u) (sample_of i) (samples l) ≡ as_gated (cond (D.present u) (held_back i l) (after i.kind i out left))
  unfolding held_back
  holds_k None e = whole_ends
  holds_k (Some z) e =
      ap (λ (p : List UserSample × List UserSample). record { items = p.0; incomplete = None; hold = p.1 ++ (sample_of i ∷ []) }) (release_same i.writer (Some z) l h)
      ∙ ap (λ s. record { items = samples (filter (λ h. leaves i.writer s h) l); incomplete = None; hold = samples (filter (λ h. not (leaves i.writer s h)) l) ++ (sample_of i ∷ []) }) (sym e ∙ mark_same i (is_member_lem z e))
      ∙ ap (λ m. record { items = samples (filter (λ h. leaves i.writer i.set h) l); incomplete = None; hold = m }) (samples_snoc (filter (λ h. not (leaves i.writer i.set h)) l) i)

  pub gate_same : (a : Bool) → gate (samples l) (sample_of i) a ≡ as_gated (gated a i l)
  unfolding gate gated is_member
  gate_same true = ap (λ u. holds_or u (sample_of i) (samples l)) (member_same i) ∙ holds_k (member_mark i) refl
  gate_same false = whole_passes

  -- the hold is of members then too
  ended_members : (b : Bool) → list_all (λ i. is_member i) (ended b out left).hold ≡ true
  ended_members true = all_keep (λ i. is_member i) (λ h. not (leaves i.writer None h)) l h
  ended_members false = all_keep (λ i. is_member i) (λ h. not (leaves i.writer None h)) l h

  after_members : (k : Kind) → list_all (λ i. is_member i) (after k i out left).hold ≡ true
  after_members is_sample = all_keep (λ i. is_member i) (λ h. not (leaves i.writer None h)) l h
  after_members is_lifecycle = all_keep (λ i. is_member i) (λ h. not (leaves i.writer None h)) l h
  after_members (is_end o c) = ended_members (D.set_is_complete out o c)

  hold_members : (b : Bool) → is_member i ≡ b → list_all (λ i. is_member i) (cond b (held_back i l) (after i.kind i out left)).hold ≡ true
  unfolding held_back
  hold_members true e = all_both (λ i. is_member i) (filter (λ h. not (leaves i.writer i.set h)) l) (i ∷ []) (all_keep (λ i. is_member i) (λ h. not (leaves i.writer i.set h)) l h) (and_true (is_member i) true e refl)
  hold_members false e = after_members i.kind

  gated_members : (a : Bool) → list_all (λ i. is_member i) (gated a i l).hold ≡ true
  unfolding gated
  gated_members true = hold_members (is_member i) refl
  gated_members false = h

  -- ---- the refusals

  full_k : (u : Option ℤ) → member_mark i ≡ u → is_full (samples l) (member_of i.writer u) ≡ (D.present u && D.is_full l i)
  unfolding D.is_full count
  full_k None e = refl
  full_k (Some z) e =
      ap (λ (p : List UserSample × List UserSample). leb 64 (length (samples l)) && eqb (length p.0) 0) (release_same i.writer (Some z) l h)
      ∙ ap (λ n. leb 64 n && eqb (length (samples (filter (λ h. leaves i.writer (Some z) h) l))) 0) (samples_length l)
      ∙ ap (λ n. leb 64 (length l) && eqb n 0) (samples_length (filter (λ h. leaves i.writer (Some z) h) l))
      ∙ ap (λ s. leb 64 (length l) && eqb (length (filter (λ h. leaves i.writer s h) l)) 0) (sym e ∙ mark_same i (is_member_lem z e))

  full_same : is_full (samples l) (coherent_member (sample_of i)) ≡ (is_member i && D.is_full l i)
  unfolding is_member
  full_same = ap (λ u. is_full (samples l) u) (member_same i) ∙ full_k (member_mark i) refl

abbrev as_answer : Answer Effect → Answer Gated
as_answer (refused n) = refused n
as_answer (answered e) = answered (as_gated e)

cond_map : {A B : Type 0} (f : A → B) (b : Bool) (u v : A) → cond b (f u) (f v) ≡ f (cond b u v)
cond_map f true u v = refl
cond_map f false u v = refl

and_assoc : (a b c : Bool) → (a && (b && c)) ≡ a && b && c
and_assoc true b c = refl
and_assoc false b c = refl

-- any hold of members, any item, any room
pub call_same : (i : Item) (l : List Item) → list_all (λ i. is_member i) l ≡ true → (a : Bool) (room : ℕ) → gate_or (samples l) (sample_of i) a room ≡ as_answer (D.gate l i a room)
unfolding gate_or D.gate
call_same i l h a room =
    ap (λ n. cond (ltb room (n + 1)) (refused 5) (cond (a && is_full (samples l) (coherent_member (sample_of i))) (refused 7) (answered (gate (samples l) (sample_of i) a)))) (samples_length l)
    ∙ ap (λ b. cond (ltb room (length l + 1)) (refused 5) (cond b (refused 7) (answered (gate (samples l) (sample_of i) a)))) (ap (λ b. a && b) (full_same i l h) ∙ and_assoc a (is_member i) (D.is_full l i))
    ∙ ap (λ g. cond (ltb room (length l + 1)) (refused 5) (cond (a && is_member i && D.is_full l i) (refused 7) (answered g))) (gate_same i l h a)
    ∙ ap (λ r. cond (ltb room (length l + 1)) (refused 5) r) (cond_map as_answer (a && is_member i && D.is_full l i) (refused 7) (answered (gated a i l)))
    ∙ cond_map as_answer (ltb room (length l + 1)) (refused 5) (cond (a && is_member i && D.is_full l i) (refused 7) (answered (gated a i l)))

-- ---- every list of calls

told_same : (r : Answer Effect) → answer_of (as_answer r) ≡ told_by r
told_same (refused n) = refl
told_same (answered e) = refl

held_same : (l : List Item) (r : Answer Effect) → held_after (samples l) (as_answer r) ≡ samples (kept_by l r)
held_same l (refused n) = refl
held_same l (answered e) = refl

kept_members : (i : Item) (l : List Item) → list_all (λ i. is_member i) l ≡ true → (a b c : Bool) → list_all (λ i. is_member i) (kept_by l (cond b (refused 5) (cond c (refused 7) (answered (gated a i l))))) ≡ true
kept_members i l h a true c = h
kept_members i l h a false true = h
kept_members i l h a false false = gated_members i l h a

stays : (c : Call) (l : List Item) → list_all (λ i. is_member i) l ≡ true → list_all (λ i. is_member i) (kept_by l (D.gate l c.item c.access c.room)) ≡ true
unfolding D.gate
stays c l h = kept_members c.item l h c.access (ltb c.room (length l + 1)) (c.access && is_member c.item && D.is_full l c.item)

answers_from : (cs : List Call) (l : List Item) → list_all (λ i. is_member i) l ≡ true → answers (samples l) cs ≡ answers_by l cs
unfolding answers answers_by
answers_from [] l h = refl
answers_from (c ∷ cs) l h =
    let r : Answer Effect = D.gate l c.item c.access c.room in
    ap (λ (q : Answer Gated). answer_of q ∷ answers (held_after (samples l) q) cs) (call_same c.item l h c.access c.room)
    ∙ ap (λ a. a ∷ answers (held_after (samples l) (as_answer r)) cs) (told_same r)
    ∙ ap (λ m. told_by r ∷ answers m cs) (held_same l r)
    ∙ ap (λ more. told_by r ∷ more) (answers_from cs (kept_by l r) (stays c l h))

run_from : (cs : List Call) (l : List Item) → list_all (λ i. is_member i) l ≡ true → run (samples l) cs ≡ samples (run_by l cs)
unfolding run run_by
run_from [] l h = refl
run_from (c ∷ cs) l h =
    ap (λ (q : Answer Gated). run (held_after (samples l) q) cs) (call_same c.item l h c.access c.room)
    ∙ ap (λ m. run m cs) (held_same l (D.gate l c.item c.access c.room))
    ∙ run_from cs (kept_by l (D.gate l c.item c.access c.room)) (stays c l h)

pub gate_alike : (cs : List Call) → SameRun cs
gate_alike cs = record { answers_same = answers_from cs [] refl; hold_same = run_from cs [] refl }

kind_member : (c : Change) (m : Member) → is_member (record { kind = D.change_as c; writer = m.writer; set = Some m.set; item = m.item }) ≡ true
unfolding is_member
kind_member C.Sample m = refl
kind_member C.Lifecycle m = refl

all_members : (l : List Member) → list_all (λ i. is_member i) (map (λ m. member_as m) l) ≡ true
all_members [] = refl
all_members (m ∷ l) = and_true (is_member (member_as m)) _ (kind_member m.change m) (all_members l)

-- every hold of the code is one of members
pub hold_of_members : (h : CoherentHold) → list_all (λ i. is_member i) (hold_as h) ≡ true
hold_of_members h = all_members h.held.items

-- ---- the code

counted_same : (l : List Item) (o : List ℕ) (r : Answer Effect) → (D.left_by l o r).answer ≡ counted (as_answer r)
unfolding D.left_by
counted_same l o (refused n) = refl
counted_same l o (answered e) = ap (λ n. answered (n, e.incomplete)) (sym (samples_length e.out))

kept_same : (l : List Item) (o : List ℕ) (r : Answer Effect) → (D.left_by l o r).hold ≡ kept_by l r
unfolding D.left_by
kept_same l o (refused n) = refl
kept_same l o (answered e) = refl

abbrev out_by : Answer Effect → List Item
out_by (refused n) = []
out_by (answered e) = e.out

items_same : (r : Answer Effect) → samples (out_by r) ≡ items_of (as_answer r)
items_same (refused n) = refl
items_same (answered e) = refl

list_same : (l : List Item) (o : List ℕ) (r : Answer Effect) → (D.left_by l o r).list ≡ D.written (out_by r) o
unfolding D.left_by D.written D.words
list_same l o (refused n) = refl
list_same l o (answered e) = refl

-- what the contract of `gate` says of a call
pub code_same : (h : CoherentHold) (i : It.Item) (a : Bool) (o : List ℕ) (r : Result Gd.Gated Refusal) (k : CoherentHold) (p : List ℕ) → D.call_as r k p ≡ D.gate_call (hold_as h) (D.item_as i) a o → CodeSame h i a o r k p
unfolding D.gate_call held_in
code_same h i a o r k p e =
    let q : Answer Effect = D.gate (hold_as h) (D.item_as i) a (length o / 5) in
    let s : gate_or (samples (hold_as h)) (sample_of (D.item_as i)) a (length o / 5) ≡ as_answer q = call_same (D.item_as i) (hold_as h) (hold_of_members h) a (length o / 5) in
    record {
      answer_is = ap (λ (c : D.Call). c.answer) e ∙ counted_same (hold_as h) o q ∙ ap (λ g. counted g) (sym s);
      hold_is = ap (λ (c : D.Call). samples c.hold) e ∙ ap (λ l. samples l) (kept_same (hold_as h) o q) ∙ sym (held_same (hold_as h) q) ∙ ap (λ g. held_after (samples (hold_as h)) g) (sym s);
      out = out_by q;
      items_are = items_same q ∙ ap (λ g. items_of g) (sym s);
      list_is = ap (λ (c : D.Call). c.list) e ∙ list_same (hold_as h) o q;
    }
