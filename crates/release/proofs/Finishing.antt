-- An ended set finished: the entries left and the places written.
use Prim.Native.Nat.{ℕ, suc, ◌+◌, ◌≤◌}
use mathlib.Core.Path.{◌≡◌, refl, sym, ap, ◌∙◌, subst}
use mathlib.Core.Bool.{not, true, false}
use mathlib.Core.List.{List, [], ◌∷◌, ◌++◌, map, map-append}
use native.Mathlib.Omega.{arith}
use lib.IntN.{ℤ}
use lib.ListN.{length, take, length-append}
use Rattle.std.proofs.Common.{take_all}
use Rattle.std.proofs.lemmas.List.{length-take}
use borrow.Author.Tests.{not-true}
use Rattle.laws.specs.Lists.{count}
use Rattle.guids.specs.Guid.{Guid}
use Rattle.rules.specs.Entry.{in_set, is_member}
use Rattle.rules.specs.declared.entry.Entry.{Entry}
use Rattle.rules.specs.Sets.{end_missing, whole, without, members_of}
use Rattle.rules.specs.Commit.{Turn}
use Rattle.rules.specs.Release.{waits, finish, finish_if, hand_out, discard, discards}
use Rattle.rules.specs.Run.{place_of}
use Rattle.sets.specs.declared.Sets.{Sets}
use Rattle.sets.specs.Works.{Carries, Goes}
use Rattle.laws.proofs.Lists.{length_split, count_imp, and_left}

pub members_fit : (g : Guid) (z : ℤ) (l : List (Entry ℕ)) → length (without g z l) + length (members_of g z l) ≤ length l
unfolding without members_of count is_member
members_fit g z l = omega (arith, length_split (λ h. in_set g z h) l, count_imp (λ h. is_member g z h) (λ h. in_set g z h) (λ h p. and_left (in_set g z h) _ p) l)

pub placed : (l : List (Entry ℕ)) → length (map (λ e. place_of e) l) ≡ length l
placed [] = refl
placed (e ∷ l) = ap suc (placed l)

-- no end of a whole set is missing
pub whole_ready : (t : Turn) (z : ℤ) (l : List (Entry ℕ)) → whole t.guid z t.counted l ≡ true → waits t z l ≡ false
unfolding whole waits
whole_ready t z l h = rw (not-true (end_missing t.guid z t.counted l) (and_left (not (end_missing t.guid z t.counted l)) _ h))

module _ (t : Turn) (z : ℤ) (s u : Sets) (o p : List ℕ) (h : u.held.items ≡ without t.guid z s.held.items) where
  pub handed_out : u.counts ≡ s.counts → p ≡ take 256 (o ++ map (λ e. place_of e) (members_of t.guid z s.held.items)) → length s.held.items + length o ≤ 256
      → whole t.guid z t.counted s.held.items ≡ true → Goes (λ w. finish t z w) s o u p
  unfolding finish hand_out
  handed_out c q r y w x =
      let f : whole t.guid z t.counted w.held ≡ true = ap (λ l. whole t.guid z t.counted l) (sym x.held) ∙ y in
      let m = members_of t.guid z s.held.items in
      let all : take 256 (o ++ map (λ e. place_of e) m) ≡ o ++ map (λ e. place_of e) m = take_all 256 (o ++ map (λ e. place_of e) m) (omega (arith, length-append o (map (λ e. place_of e) m), placed m, members_fit t.guid z s.held.items, r)) in
      subst (λ b. Carries u p (finish_if b t.guid z w)) (sym f)
      (record {
        held = h ∙ ap (λ l. without t.guid z l) x.held;
        counts = c ∙ x.counts;
        out = q ∙ all ∙ ap (λ a. a ++ map (λ e. place_of e) m) x.out ∙ ap (λ l. map (λ e. place_of e) w.out ++ map (λ e. place_of e) (members_of t.guid z l)) x.held ∙ sym (map-append (λ e. place_of e) w.out (members_of t.guid z w.held));
      })

  pub discarded : u.counts ≡ discards (length (members_of t.guid z s.held.items)) s.counts → whole t.guid z t.counted s.held.items ≡ false → Goes (λ w. finish t z w) s o u o
  unfolding finish discard
  discarded c y w x =
      let f : whole t.guid z t.counted w.held ≡ false = ap (λ l. whole t.guid z t.counted l) (sym x.held) ∙ y in
      subst (λ b. Carries u o (finish_if b t.guid z w)) (sym f)
      (record {
        held = h ∙ ap (λ l. without t.guid z l) x.held;
        counts = c ∙ ap (λ l. discards (length (members_of t.guid z l)) s.counts) x.held ∙ ap (λ k. discards (length (members_of t.guid z w.held)) k) x.counts;
        out = x.out;
      })

  pub finish_room : p ≡ take 256 (o ++ map (λ e. place_of e) (members_of t.guid z s.held.items)) → length u.held.items + length p ≤ length s.held.items + length o
  finish_room q =
      let m = members_of t.guid z s.held.items in
      omega (arith, ap length h, ap length q, length-take 256 (o ++ map (λ e. place_of e) m), length-append o (map (λ e. place_of e) m), placed m, members_fit t.guid z s.held.items)

  pub discard_room : length u.held.items + length o ≤ length s.held.items + length o
  discard_room = omega (arith, ap length h, members_fit t.guid z s.held.items)
