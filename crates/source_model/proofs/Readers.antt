-- Every stored entry is for a reader up to 7, so the waiting figure of any other is 0 on both sides.
use Prim.Native.Nat.{ℕ, ◌+◌}
use mathlib.Core.Path.{◌≡◌, refl, ap, ◌∙◌}
use mathlib.Core.Bool.{Bool, true, false, ◌&&◌, cond}
use mathlib.Core.List.{List, [], ◌∷◌}
use Rattle.std.specs.Prelude.{Option, Some, None}
use native.Mathlib.Omega.{arith}
use lib.Dec.{ltb, leb, eqb}
use lib.ListN.{length}
use borrow.Author.Tests.{ltb-true, ltb-false, leb-true, le-leb, ne_eqb}
use Rattle.laws.specs.Lists.{list_all, list_any, count}
use Rattle.rules.specs.Entry.{is_sample}
use Rattle.rules.specs.declared.entry.Entry.{Entry}
use Rattle.rules.specs.State.{State, fresh}
use Rattle.rules.specs.declared.state.Group.{Group}
use Rattle.rules.specs.State as St
use Rattle.rules.specs.Commit.{Turn}
use Rattle.rules.specs.Offer.{ninth, pair33, adds, entry_of, marked, fate_of, offer_refusal, place, heard_offer, offered, offer, with_marks}
use Rattle.rules.specs.declared.call.Offer.{Offer}
use Rattle.rules.specs.declared.call.Fate.{Fate}
use Rattle.rules.specs.declared.call.Fate.TheVariants.{Stored, Joined, Late}
use Rattle.rules.specs.Release.{View, turn_of, work_of, back_to, released, release_refusal, released_if, release}
use Rattle.rules.specs.Run.{Call, offers, heartbeats, gaps, releases, step, waiting}
use Rattle.laws.proofs.Lists.{all_snoc, all_yes, and_left, and_right, count_none}
use Rattle.rules.proofs.Keeping.{join_all, release_all_all}
use Rattle.rules.proofs.Reached.{refusal_first}
use Rattle.rules.proofs.Stays.{heartbeat_same, gap_same}

and_false : (b : Bool) → b && false ≡ false
and_false true = refl
and_false false = refl

module _ {X : Type 0} where
  -- for a reader up to 7
  unfoldable pub small : Entry X → Bool
  small e = leb e.reader 7

pub record Readers {X : Type 0} (s : State X) : Type 0 where
  pub pending : list_all (λ e. small e) s.pending ≡ true
  pub held : list_all (λ e. small e) s.held ≡ true

module _ {X : Type 0} where
  blind : (m : Option ℕ) (e : Entry X) → small (marked m e) ≡ small e
  unfolding small marked
  blind m e = refl

  own : (o : Offer X) → ltb 7 o.reader ≡ false → small (entry_of o) ≡ true
  unfolding small entry_of
  own o h = le-leb o.reader 7 (ltb-false 7 o.reader h)

  placed : (k : Fate) (o : Offer X) (s : State X) → ltb 7 o.reader ≡ false → Readers s → Readers (place k (entry_of o) (heard_offer o s))
  unfolding place heard_offer with_marks
  placed Stored o s e r = record { pending = all_snoc (λ e. small e) s.pending (entry_of o) r.pending (own o e); held = r.held }
  placed Joined o s e r = record { pending = r.pending; held = join_all (λ e. small e) (λ m e. blind m e) (entry_of o) s.held (own o e) r.held }
  placed Late o s e r = record { pending = r.pending; held = r.held }

  offer_readers : (u : Option ℕ) (s : State X) (o : Offer X) → offer_refusal s o ≡ u → Readers s → Readers (offered u s o).1
  unfolding offer_refusal
  offer_readers (Some n) s o e r = r
  offer_readers None s o e r = placed (fate_of s o) o s (refusal_first 1 (ltb 7 o.reader) ((2, ninth o.group s) ∷ (3, pair33 o.group o.writer s) ∷ (4, adds (fate_of s o) s o && leb 256 (St.stored s)) ∷ []) e) r

  released_readers : (s : State X) (v : View) (now : ℕ) → Readers s → Readers (back_to s (released s v now))
  unfolding released back_to work_of turn_of
  released_readers s v now r =
      let t : Group → Turn = λ g. turn_of v now s.timeout s.writers g in
      let b = release_all_all t (λ g. refl) (λ e. small e) (λ e. small e) (λ m e. blind m e) (λ g. true) (λ x e a b c. c) s.groups (all_yes s.groups) (work_of s) (r.pending, r.held) in
      record { pending = b.0; held = b.1 }

  release_readers : (u : Option ℕ) (s : State X) (v : View) (now : ℕ) → Readers s → Readers (released_if u s v now).1
  release_readers (Some n) s v now r = r
  release_readers None s v now r = released_readers s v now r

  pub step_readers : (s : State X) (c : Call X) → Readers s → Readers (step s c).1
  unfolding step offer release
  step_readers s (offers o) r = offer_readers (offer_refusal s o) s o refl r
  step_readers s (heartbeats h) r = let q = heartbeat_same s h in record { pending = ap (λ l. list_all (λ e. small e) l) q.pending ∙ r.pending; held = ap (λ l. list_all (λ e. small e) l) q.held ∙ r.held }
  step_readers s (gaps g) r = let q = gap_same s g in record { pending = ap (λ l. list_all (λ e. small e) l) q.pending ∙ r.pending; held = ap (λ l. list_all (λ e. small e) l) q.held ∙ r.held }
  step_readers s (releases now v l) r = release_readers (release_refusal s v (length l)) s v now r

  none_large : (n : ℕ) (l : List (Entry X)) → ltb 7 n ≡ true → list_all (λ e. small e) l ≡ true → list_any (λ e. is_sample e && eqb n e.reader) l ≡ false
  unfolding small
  none_large n [] h a = refl
  none_large n (e ∷ l) h a =
      let x = ltb-true 7 n h in
      let y = leb-true e.reader 7 (and_left (leb e.reader 7) _ a) in
      let d : eqb n e.reader ≡ false = ne_eqb n e.reader (λ q. omega (arith, x, y, q)) in
      rw (d, and_false (is_sample e)) (none_large n l h (and_right (leb e.reader 7) _ a))

  -- the figure of any reader
  pub waiting_all : (s : State X) (n : ℕ) → Readers s → waiting s n ≡ count (λ e. is_sample e && eqb n e.reader) s.pending + count (λ e. is_sample e && eqb n e.reader) s.held
  unfolding waiting
  waiting_all s n r =
      (elim (ltb 7 n) as (λ b. ltb 7 n ≡ b → cond b 0 (count (λ e. is_sample e && eqb n e.reader) s.pending + count (λ e. is_sample e && eqb n e.reader) s.held) ≡ count (λ e. is_sample e && eqb n e.reader) s.pending + count (λ e. is_sample e && eqb n e.reader) s.held) [
        | true ↦ λ h. let p = count_none (λ e. is_sample e && eqb n e.reader) s.pending (none_large n s.pending h r.pending) in
            let q = count_none (λ e. is_sample e && eqb n e.reader) s.held (none_large n s.held h r.held) in
            omega (arith, p, q)
        | false ↦ λ h. refl
      ]) refl

pub fresh_readers : {X : Type 0} (t : ℕ) → Readers {X = X} (fresh t)
unfolding fresh
fresh_readers t = record { pending = refl; held = refl }
