-- What a release remembers of the held entries, from one commit to the next.
use Prim.Native.Nat.{ℕ}
use mathlib.Core.Path.{◌≡◌, refl, sym, ap, ap₂, ◌∙◌}
use mathlib.Core.Bool.{Bool, true, false, ◌&&◌, ◌||◌, not, cond}
use mathlib.Core.List.{List, [], ◌∷◌, ◌++◌}
use Rattle.std.specs.Prelude.{Option, Some, None}
use native.Mathlib.Omega.{arith}
use lib.IntN.{ℤ, pos, negsuc}
use borrow.Author.Tests.{eq-eqb}
use Rattle.laws.specs.Whole.{eq_z}
use lib.ListN.{length}
use Rattle.laws.specs.Lists.{filter, list_any, find, is_some}
use Rattle.guids.specs.Guid.{Guid, same_guid}
use Rattle.rules.specs.declared.entry.Entry.{Entry}
use Rattle.rules.specs.declared.entry.SetEnd.{SetEnd}
use Rattle.rules.specs.declared.entry.What.{What}
use Rattle.rules.specs.declared.entry.What.TheVariants.{Sample, End}
use Rattle.rules.specs.Entry.{is_sample, is_sample_w, of_group, in_set, is_set, same_set, marks}
use Rattle.rules.specs.Offer.{shares, replaced, marked, keep_end}
use Rattle.rules.specs.Sets.{lesser, lowest_set, lowest_ended, without, is_stale, lowest_stale}
use Rattle.rules.specs.Release.{Work, mark_or, discard, discard_stale, with_held, with_out, settle, commit_one}
use Rattle.laws.proofs.Lists.{and_true, or_true_left, find_test, and_left, and_right, and_never, not_both, keep_keep, keep_same, keep_last, any_append}
use Rattle.rules.proofs.Turns.{stale_keeps}
use Rattle.rules.proofs.Fuel.{stale_fuel}
use Rattle.rules.proofs.Minima.{eq_z_eq}
use Rattle.guids.proofs.Guids.{same_eq, same_refl}
use Rattle.release.specs.Known.{Known}
use Rattle.release.specs.declared.commit.Memory.{Memory}

-- a sample that does not mark its set
unfoldable pub plain : Entry ℕ → Bool
plain e = is_sample e && not (marks e)

-- the only set that may be open and not ended once e is committed: its own, if it is a sample
unfoldable pub own_after : Entry ℕ → Option ℤ
own_after e = cond (is_sample e) e.set None

same_eq_z : (z : ℤ) → eq_z z z ≡ true
same_eq_z (pos n) = eq-eqb n n refl
same_eq_z (negsuc n) = eq-eqb n n refl

any_keep : (p q : Entry ℕ → Bool) (l : List (Entry ℕ)) → list_any p (filter q l) ≡ list_any (λ x. q x && p x) l
any_keep p q [] = refl
any_keep p q (a ∷ l) = elim (q a) as (λ b. list_any p (cond b (a ∷ filter q l) (filter q l)) ≡ (b && p a) || list_any (λ x. q x && p x) l) [ true ↦ ap (λ x. p a || x) (any_keep p q l) | false ↦ any_keep p q l ]

any_same : (p q : Entry ℕ → Bool) → ((a : Entry ℕ) → p a ≡ q a) → (l : List (Entry ℕ)) → list_any p l ≡ list_any q l
any_same p q h [] = refl
any_same p q h (a ∷ l) = rw (h a, any_same p q h l)

-- ---- no set number among fewer entries either

no_less : (s x : Option ℤ) → lesser s x ≡ None → (s ≡ None) × (x ≡ None)
unfolding is_some
no_less None x e = (refl, e)
no_less (Some a) None e = not_both false (ap is_some (sym e)) refl
no_less (Some a) (Some b) e = not_both false (ap is_some (sym e)) refl

fewer : (p : Entry ℕ → Bool) (l : List (Entry ℕ)) → lowest_set l ≡ None → lowest_set (filter p l) ≡ None
unfolding lowest_set
fewer p [] e = refl
fewer p (a ∷ l) e =
    let d = no_less a.set (lowest_set l) e in
    let ih = fewer p l d.1 in
    elim (p a) as (λ b. lowest_set (cond b (a ∷ filter p l) (filter p l)) ≡ None) [
      | true ↦ ap (λ s. lesser s (lowest_set (filter p l))) d.0 ∙ ih
      | false ↦ ih
    ]

not_not : (b : Bool) → not b ≡ true → b ≡ false
not_not true e = sym e
not_not false e = refl

last_false : (a b c : Bool) → c ≡ false → a && b && c ≡ false
last_false true true c e = e
last_false true false c e = refl
last_false false b c e = refl

both : (a b : Bool) → a && b ≡ b && a
both true true = refl
both true false = refl
both false true = refl
both false false = refl

turned : (p q : Entry ℕ → Bool) (l : List (Entry ℕ)) → filter p (filter q l) ≡ filter q (filter p l)
turned p q l = keep_keep p q l ∙ keep_same (λ x. q x && p x) (λ x. p x && q x) (λ x. both (q x) (p x)) l ∙ sym (keep_keep q p l)

-- ---- no set is ended

module _ (g : Guid) (e : Entry ℕ) (w : Work ℕ) (h : lowest_ended g w.held ≡ None) (s : plain e ≡ true) where
  discarded_none : lowest_ended g (discard_stale (length w.held) e w).held ≡ None
  unfolding lowest_ended discard without
  discarded_none =
      stale_keeps (λ v. lowest_ended g v.held ≡ None) e
      (λ z v d. ap lowest_set (turned (λ x. of_group g x && marks x) (λ x. not (in_set e.group z x)) v.held) ∙ fewer (λ x. not (in_set e.group z x)) (filter (λ x. of_group g x && marks x) v.held) d)
      (length w.held) w h

  unmarked : marks e ≡ false
  unfolding plain
  unmarked = not_not (marks e) (and_right (is_sample e) (not (marks e)) s)

  settled_none : (v : Work ℕ) (x : What ℕ) (z : Option ℤ) → is_sample_w x ≡ true → lowest_ended g v.held ≡ None → lowest_ended g (settle e v x z).held ≡ None
  unfolding lowest_ended with_held with_out
  settled_none v (Sample x) None t d = d
  settled_none v (Sample x) (Some z) t d = ap lowest_set (keep_last (λ y. of_group g y && marks y) v.held e (and_never (of_group g e) (marks e) unmarked)) ∙ d
  settled_none v (End f) z t d = not_both false t refl

  pub quiet_stays : lowest_ended g (commit_one e w).held ≡ None
  unfolding commit_one plain is_sample
  quiet_stays = settled_none (discard_stale (length w.held) e w) e.what e.set (and_left (is_sample e) (not (marks e)) s) discarded_none

-- ---- no set is stale

within : (a b : Bool) → (a ≡ true → b ≡ true) → a ≡ b && a
within true b h = sym (ap (λ t. t && true) (h refl))
within false true h = refl
within false false h = refl

weaker : (a b c : Bool) → a && b && c ≡ true → a && b && true ≡ true
weaker true true c e = refl
weaker true false c e = e
weaker false b c e = e

earlier : (a b c d : Bool) → c && not (a || b) && d ≡ true → c && not a && d ≡ true
earlier true b c d e = e
earlier false true true d e = not_both false e refl
earlier false true false d e = e
earlier false false c d e = e

not_true_is : (b : Bool) → (b ≡ true → ⊥) → b ≡ false
not_true_is true h = absurd (h refl)
not_true_is false h = refl

or_left : (a b : Bool) → a || b ≡ false → a ≡ false
or_left true b e = e
or_left false b e = refl

or_right : (a b : Bool) → a || b ≡ false → b ≡ false
or_right true b e = not_both true refl e
or_right false b e = e

pub set_is : (z : ℤ) (o : Option ℤ) → is_set z o ≡ true → Some z ≡ o
set_is z None e = not_both false e refl
set_is z (Some y) e = ap Some (eq_z_eq z y e)

-- a test that fewer pass
fewer_pass : (p q : Entry ℕ → Bool) → ((x : Entry ℕ) → q x ≡ true → p x ≡ true) → (l : List (Entry ℕ)) → lowest_set (filter p l) ≡ None → lowest_set (filter q l) ≡ None
fewer_pass p q h l e =
    ap lowest_set (keep_same q (λ x. p x && q x) (λ x. within (q x) (p x) (h x)) l ∙ sym (keep_keep q p l)) ∙ fewer q (filter p l) e

-- of two equal set numbers
set_eq : (a b : Option ℤ) → same_set a b ≡ true → a ≡ b
set_eq None b e = not_both false e refl
set_eq (Some z) b e = set_is z b e

set_same : (z : ℤ) (a : Option ℤ) → a ≡ Some z → same_set a (Some z) ≡ true
set_same z a e = ap (λ x. same_set x (Some z)) e ∙ same_eq_z z

-- h's set is ended among fewer entries too, where none of those that leave is of it
still_ended : (h : Entry ℕ) (stays : Entry ℕ → Bool) → ((m : Entry ℕ) → shares h m ≡ true → stays m ≡ true) → (l : List (Entry ℕ))
    → list_any (λ m. shares h m && marks m) (filter stays l) ≡ list_any (λ m. shares h m && marks m) l
still_ended h stays f l =
    any_keep (λ m. shares h m && marks m) stays l
    ∙ any_same (λ m. stays m && (shares h m && marks m)) (λ m. shares h m && marks m) (λ m. sym (within (shares h m && marks m) (stays m) (λ e. f m (and_left (shares h m) (marks m) e)))) l

not_it : (b : Bool) → b ≡ false → not b ≡ true
not_it b e = ap not e

-- no set at all is open and not ended: none but any other is
any_clean : (g : Guid) (l : List (Entry ℕ)) → ((e : Entry ℕ) → e.group ≡ g → e.set ≡ None → lowest_stale e l ≡ None) → (e : Entry ℕ) → e.group ≡ g → lowest_stale e l ≡ None
unfolding lowest_stale is_stale
any_clean g l x e p =
    let e0 : Entry ℕ = record { group = e.group; writer = e.writer; reader = e.reader; number = e.number; set = None; what = e.what; time = e.time; ended = e.ended } in
    fewer_pass (λ h. is_stale e0 l h) (λ h. is_stale e l h)
    (λ h k. weaker (of_group e.group h) (not (list_any (λ m. shares h m && marks m) l)) (not (same_set e.set h.set)) k) l (x e0 p refl)

-- none but the entry's own is
pub clean_none : (e : Entry ℕ) (m : Memory) (l : List (Entry ℕ)) → Known e.group m l → m.clean ≡ true → m.own ≡ None → lowest_stale e l ≡ None
clean_none e m l k c n = any_clean e.group l (λ x p q. k.stale c x p (q ∙ sym n)) e refl

module _ (e : Entry ℕ) where
  -- one more in its own set
  more_ended : (l : List (Entry ℕ)) (h : Entry ℕ) → is_stale e (l ++ (e ∷ [])) h ≡ true → is_stale e l h ≡ true
  unfolding is_stale
  more_ended l h k =
      let c = of_group e.group h in
      let d = not (same_set e.set h.set) in
      let a = list_any (λ m. shares h m && marks m) l in
      let b = list_any (λ m. shares h m && marks m) (e ∷ []) in
      earlier a b c d (sym (ap (λ t. c && not t && d) (any_append (λ m. shares h m && marks m) l (e ∷ []))) ∙ k)

  own_fresh : (z : ℤ) (l : List (Entry ℕ)) → e.set ≡ Some z → is_stale e l e ≡ false
  unfolding is_stale
  own_fresh z l q = last_false (of_group e.group e) (not (list_any (λ m. shares e m && marks m) l)) (not (same_set e.set e.set)) (ap not (ap (λ o. same_set o o) q ∙ same_eq_z z))

  joined_clean : (z : ℤ) (l : List (Entry ℕ)) → e.set ≡ Some z → lowest_stale e l ≡ None → lowest_stale e (l ++ (e ∷ [])) ≡ None
  unfolding lowest_stale
  joined_clean z l q d =
      ap lowest_set (keep_last (λ h. is_stale e (l ++ (e ∷ [])) h) l e (own_fresh z (l ++ (e ∷ [])) q))
      ∙ fewer_pass (λ h. is_stale e l h) (λ h. is_stale e (l ++ (e ∷ [])) h) (more_ended l) l d

-- ---- a kept end marks its set, and no other loses its marks

module _ (e : Entry ℕ) (z : ℤ) (s : e.set ≡ Some z) (m : Option ℕ) (is : is_some m ≡ true) (l : List (Entry ℕ)) (e0 : Entry ℕ) (g0 : e0.group ≡ e.group) (s0 : e0.set ≡ None) where
  abbrev kept : List (Entry ℕ)
  kept = filter (λ h. not (replaced e h)) l

  end_marks : marks (marked m e) ≡ true
  unfolding marks marked
  end_marks = is

  -- h's set is not ended then: it is not e's, and was not ended before
  module _ (h : Entry ℕ) (k : is_stale e0 (keep_end m e l) h ≡ true) where
    here : of_group e.group h ≡ true
    unfolding is_stale
    here = ap (λ x. of_group x h) (sym g0) ∙ and_left (of_group e0.group h) _ (and_left (of_group e0.group h && not (list_any (λ y. shares h y && marks y) (keep_end m e l))) _ k)

    none_ends : list_any (λ y. shares h y && marks y) (kept ++ (marked m e ∷ [])) ≡ false
    unfolding is_stale keep_end
    none_ends = not_not (list_any (λ y. shares h y && marks y) (kept ++ (marked m e ∷ []))) (and_right (of_group e0.group h) _ (and_left (of_group e0.group h && not (list_any (λ y. shares h y && marks y) (kept ++ (marked m e ∷ [])))) _ k))

    parts : list_any (λ y. shares h y && marks y) kept || list_any (λ y. shares h y && marks y) (marked m e ∷ []) ≡ false
    parts = sym (any_append (λ y. shares h y && marks y) kept (marked m e ∷ [])) ∙ none_ends

    other_set : h.set ≡ Some z → ⊥
    unfolding shares marked of_group
    other_set q = not_both (list_any (λ y. shares h y && marks y) (marked m e ∷ []))
        (rw (end_marks)
        (or_true_left (shares h (marked m e) && true) false
        (and_true (shares h (marked m e)) true
        (and_true (same_guid h.group e.group) (same_set h.set e.set)
        (ap (λ x. same_guid x e.group) (sym (same_eq e.group h.group here)) ∙ same_refl e.group)
        (ap (λ x. same_set h.set x) s ∙ set_same z h.set q)) refl)))
        (or_right (list_any (λ y. shares h y && marks y) kept) _ parts)

    apart : (y : Entry ℕ) → shares h y ≡ true → not (replaced e y) ≡ true
    unfolding replaced shares
    apart y t =
        (elim (replaced e y) as (λ b. replaced e y ≡ b → not b ≡ true) [
          | true ↦ λ r. absurd (other_set (set_eq h.set y.set (and_right (of_group h.group y) _ t) ∙ sym (set_eq e.set y.set (and_right (of_group e.group y) _ (and_left (shares e y) _ (and_left (shares e y && not (is_sample y)) _ r)))) ∙ s))
          | false ↦ λ r. refl
        ]) refl

    before_stale : is_stale e l h ≡ true
    unfolding is_stale
    before_stale =
        and_true (of_group e.group h && not (list_any (λ y. shares h y && marks y) l)) _
        (and_true (of_group e.group h) _ here
        (not_it _ (sym (still_ended h (λ y. not (replaced e y)) apart l) ∙ or_left (list_any (λ y. shares h y && marks y) kept) _ parts)))
        (not_it _ (not_true_is (same_set e.set h.set) (λ t. other_set (sym (set_eq e.set h.set t) ∙ s))))

  end_fresh : is_stale e l (marked m e) ≡ false
  unfolding is_stale marked
  end_fresh = last_false (of_group e.group (marked m e)) (not (list_any (λ y. shares (marked m e) y && marks y) l)) (not (same_set e.set e.set)) (ap not (ap (λ o. same_set o o) s ∙ same_eq_z z))

  end_stale : lowest_set (filter (λ h. is_stale e l h) l) ≡ None → lowest_set (filter (λ h. is_stale e l h) (keep_end m e l)) ≡ None
  unfolding keep_end
  end_stale d =
      ap lowest_set (keep_last (λ h. is_stale e l h) kept (marked m e) end_fresh ∙ turned (λ h. is_stale e l h) (λ h. not (replaced e h)) l)
      ∙ fewer (λ h. not (replaced e h)) (filter (λ h. is_stale e l h) l) d

  pub kept_clean : lowest_stale e l ≡ None → lowest_stale e0 (keep_end m e l) ≡ None
  unfolding lowest_stale
  kept_clean d =
      fewer_pass (λ h. is_stale e l h) (λ h. is_stale e0 (keep_end m e l) h) before_stale (keep_end m e l) (end_stale d)

marks_some : (y : Entry ℕ) → marks y ≡ true → is_some y.ended ≡ true
unfolding marks
marks_some y e = e

mark_there : (t : ℕ) (e : Entry ℕ) (l : List (Entry ℕ)) → is_some (mark_or t (find (λ m. shares e m && marks m) l)) ≡ true
unfolding is_some
mark_there t e l =
    (elim (find (λ m. shares e m && marks m) l) as (λ o. find (λ m. shares e m && marks m) l ≡ o → is_some (mark_or t o) ≡ true) [
      | None ↦ λ d. refl
      | Some y ↦ λ d. marks_some y (and_right (shares e y) (marks y) (find_test (λ m. shares e m && marks m) l y d))
    ]) refl

-- it is asked of the group and the set alone
stale_same : (a b : Entry ℕ) (l : List (Entry ℕ)) → a.group ≡ b.group → a.set ≡ b.set → lowest_stale a l ≡ lowest_stale b l
unfolding lowest_stale is_stale
stale_same a b l p q =
    ap₂ (λ x y. lowest_set (filter (λ h. of_group x h && not (list_any (λ m. shares h m && marks m) l) && not (same_set y h.set)) l)) p q

-- ---- after a commit

module _ (e e0 : Entry ℕ) (g0 : e0.group ≡ e.group) (s0 : e0.set ≡ own_after e) where
  own_sample : (x : ℕ) → e.what ≡ Sample x → e0.set ≡ e.set
  unfolding own_after is_sample
  own_sample x t = s0 ∙ ap (λ b. cond b e.set None) (ap is_sample_w t)

  own_end : (f : SetEnd) → e.what ≡ End f → e0.set ≡ None
  unfolding own_after is_sample
  own_end f t = s0 ∙ ap (λ b. cond b e.set None) (ap is_sample_w t)

  settled_clean : (v : Work ℕ) (x : What ℕ) (z : Option ℤ) → e.what ≡ x → e.set ≡ z → lowest_stale e v.held ≡ None → lowest_stale e0 (settle e v x z).held ≡ None
  unfolding with_held with_out
  settled_clean v (Sample x) None t q d = stale_same e0 e v.held g0 (own_sample x t) ∙ d
  settled_clean v (Sample x) (Some z) t q d = stale_same e0 e (v.held ++ (e ∷ [])) g0 (own_sample x t) ∙ joined_clean e z v.held q d
  settled_clean v (End f) None t q d = stale_same e0 e v.held g0 (own_end f t ∙ sym q) ∙ d
  settled_clean v (End f) (Some z) t q d = kept_clean e z q (mark_or e.time (find (λ m. shares e m && marks m) v.held)) (mark_there e.time e v.held) v.held e0 g0 (own_end f t) d

  pub clean_after : (w : Work ℕ) → lowest_stale e0 (commit_one e w).held ≡ None
  unfolding commit_one
  clean_after w = settled_clean (discard_stale (length w.held) e w) e.what e.set refl refl (stale_fuel e w (length w.held) (omega arith))

module _ (e : Entry ℕ) (m : Memory) (w : Work ℕ) (k : Known e.group m w.held) where
  known_next : (r : Memory) → (r.quiet ≡ true → (m.quiet ≡ true) × (plain e ≡ true)) → r.own ≡ own_after e → Known e.group r (commit_one e w).held
  known_next r q o = record {
    ended = λ h. let x = q h in quiet_stays e.group e w (k.ended x.0) x.1;
    stale = λ h x p s. clean_after e x p (s ∙ o) w;
  }

  -- a sample
  pub known_sample : (x : ℕ) (q : Bool) → e.what ≡ Sample x → (q ≡ true → (m.quiet ≡ true) × (e.ended ≡ None)) → Known e.group (record { quiet = q; clean = true; own = e.set }) (commit_one e w).held
  unfolding plain own_after is_sample marks is_some
  known_sample x q a b =
      known_next (record { quiet = q; clean = true; own = e.set })
      (λ h. let y = b h in (y.0, ap (λ v. is_sample_w v && not (is_some e.ended)) a ∙ ap (λ v. not (is_some v)) y.1))
      (sym (ap (λ v. cond (is_sample_w v) e.set None) a))

  -- an end
  pub known_end : (u : SetEnd) → e.what ≡ End u → Known e.group (record { quiet = false; clean = true; own = None }) (commit_one e w).held
  unfolding own_after is_sample
  known_end u a = known_next (record { quiet = false; clean = true; own = None }) (λ h. not_both false h refl) (sym (ap (λ v. cond (is_sample_w v) e.set None) a))
