-- Heartbeats and gaps keep the likeness.
use Prim.Native.Nat.{ℕ, ◌<◌}
use mathlib.Core.Path.{◌≡◌, refl, sym, ap, ◌∙◌}
use mathlib.Core.Bool.{Bool, true, false, cond}
use mathlib.Core.List.{List, [], ◌∷◌, map}
use Rattle.std.specs.Prelude.{Option, Some}
use lib.IntN.{ℤ, pos, negsuc}
use lib.Dec.{ltb}
use Rattle.laws.specs.Lists.{change}
use Rattle.guids.specs.Guid.{Guid, same_guid}
use Rattle.rules.specs.declared.entry.Entry.{Entry}
use Rattle.rules.specs.State.{State, is_group, is_writer}
use Rattle.rules.specs.declared.state.Writer.{Writer}
use Rattle.rules.specs.Marks.{number, hear_group, saw, gapped, announced, announced_to, tell}
use Rattle.rules.specs.Offer.{with_marks}
use Rattle.rules.specs.declared.call.Heartbeat.{Heartbeat}
use Rattle.rules.specs.declared.call.Gap.{Gap}
use Rattle.guids.proofs.Guids.{same_eq}
use Rattle.source_model.specs.Map.{guids, or_default, get, insert, entry}
use Rattle.source_model.specs.Source.{Progress, GroupOrder, max_z, heard, gap_to, no_group, with_writer, announce, heartbeat, gap}
use Rattle.source_model.specs.Source as S
use Rattle.source_model.specs.Calls.{info_of}
use Rattle.source_model.proofs.Maps.{guids_lawful, get_insert, insert_ascends}
use Rattle.source_model.proofs.Like.{ProgressLike, GroupLike, Like, flat}
use Rattle.source_model.proofs.Hear.{max_alike, gap_alike, heard_alike, writers_own, writers_other, hear_flat}

pub whole_max : (a c : ℤ) → a ≡ pos (number a) → max_z a c ≡ pos (number (max_z a c))
unfolding number
whole_max (pos a) (pos c) e = elim (ltb a c) as (λ t. cond t (pos c) (pos a) ≡ pos (number (cond t (pos c) (pos a)))) [ true ↦ refl | false ↦ refl ]
whole_max (pos a) (negsuc c) e = refl
whole_max (negsuc a) c e = cc

pub saw_names : (r n d : ℕ) (h v : Guid) (x : Writer) → is_writer h v (saw r n d x) ≡ is_writer h v x
unfolding is_writer saw
saw_names r n d h v x = refl

gapped_names : (r n : ℕ) (h v : Guid) (x : Writer) → is_writer h v (gapped r n x) ≡ is_writer h v x
unfolding is_writer gapped
gapped_names r n h v x = refl

announced_names : (f l c : ℕ) (d s : Option ℕ) (h v : Guid) (x : Writer) → is_writer h v (announced f l c d s x) ≡ is_writer h v x
unfolding is_writer announced
announced_names f l c d s h v x = refl

pub change_id : {A : Type 0} (p : A → Bool) (l : List A) → change p (λ x. x) l ≡ l
unfolding change
change_id p [] = refl
change_id p (a ∷ l) = elim (p a) as (λ t. cond t (a ∷ l) (a ∷ change p (λ x. x) l) ≡ a ∷ l) [ true ↦ refl | false ↦ ap (λ r. a ∷ r) (change_id p l) ]

module _ {X : Type 0} where
  -- one group's new value, the others as they are
  pub each_after : (P : Guid → S.Group X → Type 0) (g : Guid) (v : S.Group X) (m : List (Guid × S.Group X))
      → P g v → ((h : Guid) → same_guid h g ≡ false → P h (or_default no_group (get guids h m)))
      → (h : Guid) → P h (or_default no_group (get guids h (insert guids g v m)))
  unfolding guids
  each_after P g v m own other h =
      rw (get_insert guids_lawful h g v m)
      ((elim (same_guid h g) as (λ t. same_guid h g ≡ t → P h (or_default no_group (cond t (Some v) (get guids h m)))) [
        | true ↦ λ e. rw (same_eq h g e) own
        | false ↦ λ e. other h e
      ]) refl)

  pub own_writer_told : (g w : Guid) (fm : Progress → Progress) (f : Writer → Writer) → ((h v : Guid) (x : Writer) → is_writer h v (f x) ≡ is_writer h v x)
      → ((p : Progress) (x : Writer) → ProgressLike p x → ProgressLike (fm p) (f x))
      → (m : S.Group X) (ws : List Writer) (ps hs : List (Entry X)) → GroupLike g m ws ps hs → GroupLike g (with_writer w fm m) (tell g w f ws) ps hs
  unfolding with_writer
  own_writer_told g w fm f same kept m ws ps hs l = record {
    committed = l.committed;
    announced = l.announced;
    writers = writers_own g w fm f same kept m.writers ws l.writers;
    pending = l.pending;
    sets = l.sets;
  }

  pub other_writer_told : (g w : Guid) (fm : Progress → Progress) (f : Writer → Writer) → ((h v : Guid) (x : Writer) → is_writer h v (f x) ≡ is_writer h v x)
      → ((p : Progress) (x : Writer) → ProgressLike p x → ProgressLike (fm p) (f x))
      → (h : Guid) (m : S.Group X) (ws : List Writer) (ps hs : List (Entry X)) → same_guid h g ≡ false → GroupLike h m ws ps hs → GroupLike h m (tell g w f ws) ps hs
  other_writer_told g w fm f same kept h m ws ps hs d l = record {
    committed = l.committed;
    announced = l.announced;
    writers = writers_other g w fm f same kept h m.writers ws d l.writers;
    pending = l.pending;
    sets = l.sets;
  }

  announced_told : (g : Guid) (c : ℤ) (m : S.Group X) (ws : List Writer) (ps hs : List (Entry X)) → GroupLike g m ws ps hs → GroupLike g (announce c m) ws ps hs
  unfolding announce
  announced_told g c m ws ps hs l = record {
    committed = l.committed;
    announced = whole_max m.current_gsn c l.announced;
    writers = l.writers;
    pending = l.pending;
    sets = l.sets;
  }

  flat_announced : (g w : Guid) (fm : Progress → Progress) (c : ℤ) (m : S.Group X) → announced_to (number c) (flat (g, m)) ≡ flat (g, with_writer w fm (announce c m))
  unfolding announced_to flat with_writer announce
  flat_announced g w fm c m = ap (λ k. record { guid = g; committed = number m.committed; announced = k }) (sym (max_alike m.current_gsn c))

  pub flat_told : (g w : Guid) (fm : Progress → Progress) (m : S.Group X) → flat (g, m) ≡ flat (g, with_writer w fm m)
  unfolding flat with_writer
  flat_told g w fm m = refl

  pub heartbeat_like : (o : GroupOrder X) (s : State X) (h : Heartbeat) → Like o s
      → Like (heartbeat o h.group h.writer (info_of h))
      (with_marks
      (change (λ x. is_group h.group x) (λ x. announced_to (number h.current) x) (hear_group h.group s.groups))
      (tell h.group h.writer
      (λ w. announced (number h.first) (number h.last) (number h.current) h.digest h.secure w)
      s.writers) s)
  unfolding heartbeat with_marks entry info_of
  heartbeat_like o s h l =
      let g : Guid = h.group in
      let f : Writer → Writer = λ w. announced (number h.first) (number h.last) (number h.current) h.digest h.secure w in
      let old : S.Group X = or_default no_group (get guids g o.groups) in
      let v : S.Group X = with_writer h.writer (λ p. heard (info_of h) p) (announce h.current old) in
      record {
        groups = ap (λ k. change (λ x. is_group g x) (λ x. announced_to (number h.current) x) (hear_group g k)) l.groups
            ∙ hear_flat g v (λ x. announced_to (number h.current) x) o.groups l.ascend (flat_announced g h.writer (λ p. heard (info_of h) p) h.current old);
        ascend = insert_ascends guids_lawful g v o.groups l.ascend;
        each = each_after (λ k m. GroupLike k m (tell g h.writer f s.writers) s.pending s.held) g v o.groups
            (own_writer_told g h.writer (λ p. heard (info_of h) p) f (announced_names (number h.first) (number h.last) (number h.current) h.digest h.secure) (heard_alike h) (announce h.current old) s.writers s.pending s.held (announced_told g h.current old s.writers s.pending s.held (l.each g)))
            (λ k d. other_writer_told g h.writer (λ p. heard (info_of h) p) f (announced_names (number h.first) (number h.last) (number h.current) h.digest h.secure) (heard_alike h) k (or_default no_group (get guids k o.groups)) s.writers s.pending s.held d (l.each k));
        pending_plain = l.pending_plain;
        held_sets = l.held_sets;
        counts = l.counts;
        timeout = l.timeout;
      }

  pub gap_like : (o : GroupOrder X) (s : State X) (x : Gap) → x.reader < 8 → Like o s
      → Like (gap o x.group x.writer x.reader x.number)
      (with_marks (hear_group x.group s.groups) (tell x.group x.writer (λ w. gapped x.reader (number x.number) w) s.writers) s)
  unfolding gap with_marks entry
  gap_like o s x r l =
      let g : Guid = x.group in
      let f : Writer → Writer = λ w. gapped x.reader (number x.number) w in
      let fm : Progress → Progress = λ p. gap_to x.reader x.number p in
      let old : S.Group X = or_default no_group (get guids g o.groups) in
      let v : S.Group X = with_writer x.writer fm old in
      record {
        groups = ap (λ k. hear_group g k) l.groups ∙ sym (change_id (λ y. is_group g y) (hear_group g (map (λ y. flat y) o.groups))) ∙ hear_flat g v (λ y. y) o.groups l.ascend (flat_told g x.writer fm old);
        ascend = insert_ascends guids_lawful g v o.groups l.ascend;
        each = each_after (λ k m. GroupLike k m (tell g x.writer f s.writers) s.pending s.held) g v o.groups
            (own_writer_told g x.writer fm f (gapped_names x.reader (number x.number)) (λ p w. gap_alike x.reader x.number p w r) old s.writers s.pending s.held (l.each g))
            (λ k d. other_writer_told g x.writer fm f (gapped_names x.reader (number x.number)) (λ p w. gap_alike x.reader x.number p w r) k (or_default no_group (get guids k o.groups)) s.writers s.pending s.held d (l.each k));
        pending_plain = l.pending_plain;
        held_sets = l.held_sets;
        counts = l.counts;
        timeout = l.timeout;
      }
