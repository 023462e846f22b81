-- Offers, heartbeats and gaps: what they tell of a writer and a group is alike on both sides.
use Prim.Native.Nat.{ℕ, zero, suc, max, ◌<◌}
use mathlib.Core.Path.{◌≡◌, refl, sym, ap, ◌∙◌}
use mathlib.Core.Bool.{Bool, true, false, ◌&&◌, not, cond}
use mathlib.Core.List.{List, [], ◌∷◌, ◌++◌, map}
use Rattle.std.specs.Prelude.{Option, Some, None}
use native.Mathlib.Omega.{arith}
use lib.IntN.{ℤ, pos}
use lib.Signed.{lt_z, le_z}
use lib.Dec.{eqb}
use lib.ListN.{length, get_or, replicate, length-set}
use lib.Seq.{get_or-set_same, get_or-set_other}
use mathlib.Core.List.{append-nil}
use borrow.Author.Tests.{le-ltb, eqb-true, eqb-false, lt-leb}
use Rattle.laws.specs.Lists.{filter, list_all, list_any, change}
use Rattle.guids.specs.Guid.{Guid, same_guid, before}
use Rattle.rules.specs.State.{is_group, is_writer, knows_group, knows_writer, new_group, new_writer}
use Rattle.rules.specs.declared.state.Group.{Group}
use Rattle.rules.specs.declared.state.Writer.{Writer}
use Rattle.rules.specs.Marks.{number, past, insert_group, hear_group, hear_writer, raise, saw, gapped, or_keep, announced, tell}
use Rattle.rules.specs.declared.call.Heartbeat.{Heartbeat}
use Rattle.laws.proofs.Lists.{not_both, and_true, and_left, and_right, keep_append, keep_none, kept_none, all_imp, and_never}
use Rattle.guids.proofs.Guids.{same_eq, same_refl}
use Rattle.rules.proofs.Clamp as C
use Rattle.source_model.specs.Map.{guids, readers, or_default, get, insert, entry, ascends}
use Rattle.source_model.specs.Source.{HeartbeatInfo, Progress, no_progress, is_some_and, is_past, max_z, sees, heard, gap_to, no_group}
use Rattle.source_model.specs.Source as S
use Rattle.source_model.specs.Calls.{info_of}
use Rattle.source_model.proofs.Maps.{guids_lawful, readers_lawful, get_insert, get_above, get_found, get_past, insert_ascends}
use Rattle.source_model.proofs.Like.{ProgressLike, WriterLike, unknown, known, WritersLike, first_in, last_in, current_in, flat}

-- ---- what is past

above_nothing : (n : ℕ) (o : Option ℤ) → is_some_and (λ s. lt_z (pos n) s) o ≡ lt_z (pos n) (or_default (pos 0) o)
above_nothing n None = sym (le-ltb n 0 (omega arith))
above_nothing n (Some s) = refl

to_nothing : (n : ℕ) (o : Option ℤ) → is_some_and (λ s. le_z (pos (suc n)) s) o ≡ le_z (pos (suc n)) (or_default (pos 0) o)
to_nothing n None = sym (lt-leb (suc n) 0 (omega arith))
to_nothing n (Some s) = refl

out_of_nothing : (n : ℕ) (o : Option HeartbeatInfo)
    → is_some_and (λ hb. lt_z (pos n) hb.current_gsn && not (le_z hb.first_gsn (pos n) && le_z (pos n) hb.last_gsn)) o
    ≡ lt_z (pos n) (current_in o) && not (le_z (first_in o) (pos n) && le_z (pos n) (last_in o))
out_of_nothing n None = rw (le-ltb n 0 (omega arith))
out_of_nothing n (Some h) = refl

-- is_past of a number from 1 on
pub past_alike : (p : Progress) (w : Writer) (r n : ℕ) → ProgressLike p w → is_past p r (pos (suc n)) ≡ past w r (suc n)
unfolding is_past past C.past_z
past_alike p w r n l =
    rw (
      above_nothing (suc n) (get readers r p.seen),
      to_nothing n (get readers r p.gap_end),
      out_of_nothing (suc n) p.heartbeat,
      ← l.seen r,
      ← l.gaps r,
      ← l.first,
      ← l.last,
      ← l.current,
    )
    (C.past_same (or_default (pos 0) (get readers r p.seen)) (or_default (pos 0) (get readers r p.gap_end)) (first_in p.heartbeat) (last_in p.heartbeat) (current_in p.heartbeat) n)

-- ---- marks

raised_at : (l : List ℕ) (i n : ℕ) → i < length l → get_or (raise l i n) i 0 ≡ max (get_or l i 0) n
unfolding raise
raised_at l i n h = get_or-set_same l i (max (get_or l i 0) n) 0 h

raised_off : (l : List ℕ) (i j n : ℕ) → eqb j i ≡ false → get_or (raise l i n) j 0 ≡ get_or l j 0
unfolding raise
raised_off l i j n h = get_or-set_other l i j (max (get_or l i 0) n) 0 (λ q. eqb-false j i h q)

raised_length : (l : List ℕ) (i n : ℕ) → length (raise l i n) ≡ length l
unfolding raise
raised_length l i n = length-set l i (max (get_or l i 0) n)

pub max_alike : (a b : ℤ) → number (max_z a b) ≡ max (number a) (number b)
unfolding C.max_z
max_alike a b = C.raised_same a b

raise_alike : (m : List (ℕ × ℤ)) (l : List ℕ) (i : ℕ) (n : ℤ) → i < length l
    → ((r : ℕ) → number (or_default (pos 0) (get readers r m)) ≡ get_or l r 0)
    → (r : ℕ) → number (or_default (pos 0) (get readers r (entry readers (pos 0) i (λ s. max_z s n) m))) ≡ get_or (raise l i (number n)) r 0
unfolding entry readers
raise_alike m l i n d h r =
    rw (get_insert readers_lawful r i (max_z (or_default (pos 0) (get readers i m)) n) m)
    ((elim (eqb r i) as (λ t. eqb r i ≡ t → number (or_default (pos 0) (cond t (Some (max_z (or_default (pos 0) (get readers i m)) n)) (get readers r m))) ≡ get_or (raise l i (number n)) r 0) [
      | true ↦ λ e. max_alike (or_default (pos 0) (get readers i m)) n ∙ ap (λ k. max k (number n)) (h i) ∙ sym (raised_at l i (number n) d) ∙ ap (λ k. get_or (raise l i (number n)) k 0) (sym (eqb-true r i e))
      | false ↦ λ e. h r ∙ sym (raised_off l i r (number n) e)
    ]) refl)

pub sees_alike : (r : ℕ) (n : ℤ) (d : ℕ) (p : Progress) (w : Writer) → r < 8 → ProgressLike p w → ProgressLike (sees r n d p) (saw r (number n) d w)
unfolding sees saw
sees_alike r n d p w h l = record {
  seen = raise_alike p.seen w.seen r n (omega (arith, l.seen_length)) l.seen;
  seen_length = raised_length w.seen r (number n) ∙ l.seen_length;
  gaps = l.gaps;
  gaps_length = l.gaps_length;
  first = l.first;
  last = l.last;
  current = l.current;
  digest = refl;
  secure = l.secure;
}

pub gap_alike : (r : ℕ) (n : ℤ) (p : Progress) (w : Writer) → r < 8 → ProgressLike p w → ProgressLike (gap_to r n p) (gapped r (number n) w)
unfolding gap_to gapped
gap_alike r n p w h l = record {
  seen = l.seen;
  seen_length = l.seen_length;
  gaps = raise_alike p.gap_end w.gaps r n (omega (arith, l.gaps_length)) l.gaps;
  gaps_length = raised_length w.gaps r (number n) ∙ l.gaps_length;
  first = l.first;
  last = l.last;
  current = l.current;
  digest = l.digest;
  secure = l.secure;
}

keep_digest : (d a b : Option ℕ) → a ≡ b → S.or_keep d a ≡ or_keep d b
unfolding or_keep
keep_digest None a b e = e
keep_digest (Some n) a b e = refl

pub heard_alike : (h : Heartbeat) (p : Progress) (w : Writer) → ProgressLike p w
    → ProgressLike (heard (info_of h) p) (announced (number h.first) (number h.last) (number h.current) h.digest h.secure w)
unfolding heard announced info_of
heard_alike h p w l = record {
  seen = l.seen;
  seen_length = l.seen_length;
  gaps = l.gaps;
  gaps_length = l.gaps_length;
  first = refl;
  last = refl;
  current = refl;
  digest = keep_digest h.digest p.writer_set w.digest l.digest;
  secure = refl;
}

get_d_zeros : (n i : ℕ) → ◌≡◌ {A = ℕ} (get_or (replicate n 0) i 0) 0
get_d_zeros zero i = refl
get_d_zeros (suc n) zero = refl
get_d_zeros (suc n) (suc i) = get_d_zeros n i

pub new_alike : (g w : Guid) → ProgressLike no_progress (new_writer g w)
unfolding no_progress new_writer get number
new_alike g w = record {
  seen = λ r. sym (get_d_zeros 8 r);
  seen_length = refl;
  gaps = λ r. sym (get_d_zeros 8 r);
  gaps_length = refl;
  first = refl;
  last = refl;
  current = refl;
  digest = refl;
  secure = refl;
}

-- ---- writers

abbrev pub told_head : {A : Type 0} → (A → A) → A → List A → List A
told_head f n [] = f n ∷ []
told_head f n (x ∷ l) = f x ∷ l

abbrev pub change_head : {A : Type 0} → (A → A) → List A → List A
change_head f [] = []
change_head f (x ∷ l) = f x ∷ l

module _ {A : Type 0} (p : A → Bool) (f : A → A) where
  pub keep_change_own : ((a : A) → p (f a) ≡ p a) → (l : List A) → filter p (change p f l) ≡ change_head f (filter p l)
  unfolding change
  keep_change_own h [] = refl
  keep_change_own h (a ∷ l) =
      (elim (p a) as (λ t. p a ≡ t → filter p (cond t (f a ∷ l) (a ∷ change p f l)) ≡ change_head f (cond t (a ∷ filter p l) (filter p l))) [
        | true ↦ λ e. rw (h a, e)
        | false ↦ λ e. rw e (keep_change_own h l)
      ]) refl

  pub keep_change_other : (q : A → Bool) → ((a : A) → p a ≡ true → q a ≡ false) → ((a : A) → q (f a) ≡ q a) → (l : List A) → filter q (change p f l) ≡ filter q l
  unfolding change
  keep_change_other q d h [] = refl
  keep_change_other q d h (a ∷ l) =
      (elim (p a) as (λ t. p a ≡ t → filter q (cond t (f a ∷ l) (a ∷ change p f l)) ≡ cond (q a) (a ∷ filter q l) (filter q l)) [
        | true ↦ λ e. rw (h a, d a e)
        | false ↦ λ e. ap (λ r. cond (q a) (a ∷ r) r) (keep_change_other q d h l)
      ]) refl

own_writer : (g w : Guid) → is_writer g w (new_writer g w) ≡ true
unfolding is_writer new_writer
own_writer g w = and_true (same_guid g g) (same_guid w w) (same_refl g) (same_refl w)

module _ (g w : Guid) (f : Writer → Writer) (same : (h v : Guid) (x : Writer) → is_writer h v (f x) ≡ is_writer h v x) where
  heard_own : (l : List Writer) → change_head f (filter (λ x. is_writer g w x) (hear_writer g w l)) ≡ told_head f (new_writer g w) (filter (λ x. is_writer g w x) l)
  unfolding hear_writer knows_writer
  heard_own l =
      (elim (list_any (λ x. is_writer g w x) l) as (λ t. list_any (λ x. is_writer g w x) l ≡ t → change_head f (filter (λ x. is_writer g w x) (cond t l (l ++ (new_writer g w ∷ [])))) ≡ told_head f (new_writer g w) (filter (λ x. is_writer g w x) l)) [
        | true ↦ λ e. (elim (filter (λ x. is_writer g w x) l) as (λ k. filter (λ x. is_writer g w x) l ≡ k → change_head f k ≡ told_head f (new_writer g w) k) [
          | [] ↦ λ d. not_both (list_any (λ x. is_writer g w x) l) e (kept_none (λ x. is_writer g w x) l d)
          | x ∷ k ↦ λ d. refl
        ]) refl
        | false ↦ λ e. rw (keep_append (λ x. is_writer g w x) l (new_writer g w ∷ []), keep_none (λ x. is_writer g w x) l e, own_writer g w)
      ]) refl

  pub tell_own : (l : List Writer) → filter (λ x. is_writer g w x) (tell g w f l) ≡ told_head f (new_writer g w) (filter (λ x. is_writer g w x) l)
  unfolding tell
  tell_own l = keep_change_own (λ x. is_writer g w x) f (λ a. same g w a) (hear_writer g w l) ∙ heard_own l

  pub tell_other : (h v : Guid) → ((x : Writer) → is_writer g w x ≡ true → is_writer h v x ≡ false) → (l : List Writer) → filter (λ x. is_writer h v x) (tell g w f l) ≡ filter (λ x. is_writer h v x) l
  unfolding tell hear_writer
  tell_other h v d l =
      keep_change_other (λ x. is_writer g w x) f (λ x. is_writer h v x) d (λ a. same h v a) (hear_writer g w l)
      ∙ (elim (knows_writer g w l) as (λ t. filter (λ x. is_writer h v x) (cond t l (l ++ (new_writer g w ∷ []))) ≡ filter (λ x. is_writer h v x) l) [
        | true ↦ refl
        | false ↦ rw (keep_append (λ x. is_writer h v x) l (new_writer g w ∷ []), d (new_writer g w) (own_writer g w)) (append-nil (filter (λ x. is_writer h v x) l))
      ])

-- ---- a group's writers

other_writer : (g h w v : Guid) (x : Writer) → same_guid v w ≡ false → is_writer g w x ≡ true → is_writer h v x ≡ false
unfolding is_writer
other_writer g h w v x d e = and_never (same_guid h x.group) (same_guid v x.writer) (ap (λ y. same_guid v y) (sym (same_eq w x.writer (and_right (same_guid g x.group) _ e))) ∙ d)

other_group : (g h w v : Guid) (x : Writer) → same_guid h g ≡ false → is_writer g w x ≡ true → is_writer h v x ≡ false
unfolding is_writer
other_group g h w v x d e = ap (λ b. b && same_guid v x.writer) (ap (λ y. same_guid h y) (sym (same_eq g x.group (and_left (same_guid g x.group) _ e))) ∙ d)

module _ (g w : Guid) (fm : Progress → Progress) (f : Writer → Writer) (same : (h v : Guid) (x : Writer) → is_writer h v (f x) ≡ is_writer h v x)
    (kept : (p : Progress) (x : Writer) → ProgressLike p x → ProgressLike (fm p) (f x)) where
  told_like : (o : Option Progress) (l : List Writer) → WriterLike o l → WriterLike (Some (fm (or_default no_progress o))) (told_head f (new_writer g w) l)
  told_like None [] unknown = known (kept no_progress (new_writer g w) (new_alike g w))
  told_like (Some p) (x ∷ []) (known l) = known (kept p x l)
  told_like None (x ∷ _) x4 = elim x4 [ ]
  told_like (Some p) [] x3 = elim x3 [ ]
  told_like (Some p) (x ∷ (_ ∷ _)) x9 = elim x9 [ ]

  pub writers_own : (m : List (Guid × Progress)) (l : List Writer) → WritersLike g m l → WritersLike g (entry guids no_progress w fm m) (tell g w f l)
  unfolding entry guids
  writers_own m l k = record {
    at = λ v. rw (get_insert guids_lawful v w (fm (or_default no_progress (get guids w m))) m)
        ((elim (same_guid v w) as (λ t. same_guid v w ≡ t → WriterLike (cond t (Some (fm (or_default no_progress (get guids w m)))) (get guids v m)) (filter (λ x. is_writer g v x) (tell g w f l))) [
          | true ↦ λ e. rw (same_eq v w e, tell_own g w f same l) (told_like (get guids w m) (filter (λ x. is_writer g w x) l) (k.at w))
          | false ↦ λ e. rw (tell_other g w f same g v (λ x d. other_writer g g w v x e d) l) (k.at v)
        ]) refl);
    ascend = insert_ascends guids_lawful w (fm (or_default no_progress (get guids w m))) m k.ascend;
  }

  pub writers_other : (h : Guid) (m : List (Guid × Progress)) (l : List Writer) → same_guid h g ≡ false → WritersLike h m l → WritersLike h m (tell g w f l)
  writers_other h m l d k = record {
    at = λ v. rw (tell_other g w f same h v (λ x e. other_group g h w v x d e) l) (k.at v);
    ascend = k.ascend;
  }

-- ---- groups

module _ {X : Type 0} where
  above_unknown : (g : Guid) (m : List (Guid × S.Group X)) → list_all (λ y. guids.less g y.0) m ≡ true → knows_group g (map (λ x. flat x) m) ≡ false
  unfolding knows_group is_group flat guids
  above_unknown g [] e = refl
  above_unknown g (x ∷ m) e = rw (guids_lawful.less_apart g x.0 (and_left (before g x.0) _ e)) (above_unknown g m (and_right (before g x.0) _ e))

hear_past : (g : Guid) (y : Group) (l : List Group) → same_guid g y.guid ≡ false → before g y.guid ≡ false → hear_group g (y ∷ l) ≡ y ∷ hear_group g l
unfolding hear_group knows_group is_group insert_group new_group
hear_past g y l d e =
    rw (d, e) (elim (list_any (λ x. is_group g x) l) as (λ t. cond t (y ∷ l) (y ∷ insert_group (new_group g) l) ≡ y ∷ cond t l (insert_group (new_group g) l)) [ true ↦ refl | false ↦ refl ])

hear_here : (g : Guid) (y : Group) (l : List Group) → same_guid g y.guid ≡ true → hear_group g (y ∷ l) ≡ y ∷ l
unfolding hear_group knows_group is_group
hear_here g y l d = rw d

hear_none : (g : Guid) → hear_group g [] ≡ new_group g ∷ []
unfolding hear_group knows_group insert_group
hear_none g = refl

hear_before : (g : Guid) (y : Group) (l : List Group) → knows_group g (y ∷ l) ≡ false → before g y.guid ≡ true → hear_group g (y ∷ l) ≡ new_group g ∷ y ∷ l
unfolding hear_group insert_group new_group
hear_before g y l d e = rw (d, e)

change_here : {A : Type 0} (p : A → Bool) (f : A → A) (y : A) (l : List A) → p y ≡ true → change p f (y ∷ l) ≡ f y ∷ l
unfolding change
change_here p f y l e = rw e

change_past : {A : Type 0} (p : A → Bool) (f : A → A) (y : A) (l : List A) → p y ≡ false → change p f (y ∷ l) ≡ y ∷ change p f l
unfolding change
change_past p f y l e = rw e

new_flat : (X : Type 0) (g : Guid) → flat {X = X} (g, no_group) ≡ new_group g
unfolding flat no_group new_group number
new_flat X g = refl

own_new : (g : Guid) → is_group g (new_group g) ≡ true
unfolding is_group new_group
own_new g = same_refl g

module _ {X : Type 0} where
  insert_here : (g : Guid) (v : S.Group X) (x : Guid × S.Group X) (m : List (Guid × S.Group X)) → same_guid g x.0 ≡ true → insert guids g v (x ∷ m) ≡ (g, v) ∷ m
  unfolding insert guids
  insert_here g v x m e = rw e

  insert_before : (g : Guid) (v : S.Group X) (x : Guid × S.Group X) (m : List (Guid × S.Group X)) → same_guid g x.0 ≡ false → before g x.0 ≡ true → insert guids g v (x ∷ m) ≡ (g, v) ∷ x ∷ m
  unfolding insert guids
  insert_before g v x m d e = rw (d, e)

  insert_past : (g : Guid) (v : S.Group X) (x : Guid × S.Group X) (m : List (Guid × S.Group X)) → same_guid g x.0 ≡ false → before g x.0 ≡ false → insert guids g v (x ∷ m) ≡ x ∷ insert guids g v m
  unfolding insert guids
  insert_past g v x m d e = rw (d, e)

  unknown_before : (g : Guid) (x : Guid × S.Group X) (m : List (Guid × S.Group X)) → same_guid g x.0 ≡ false → list_all (λ y. guids.less g y.0) m ≡ true → knows_group g (flat x ∷ map (λ x. flat x) m) ≡ false
  unfolding knows_group is_group flat
  unknown_before g x m d e = rw d (above_unknown g m e)

  above_all : (g : Guid) (x : Guid × S.Group X) (m : List (Guid × S.Group X)) → before g x.0 ≡ true → list_all (λ y. guids.less x.0 y.0) m ≡ true → list_all (λ y. guids.less g y.0) m ≡ true
  unfolding guids
  above_all g x m d e = all_imp (λ y. before x.0 y.0) (λ y. before g y.0) (λ y k. guids_lawful.trans g x.0 y.0 d k) m e

  is_flat : (g : Guid) (x : Guid × S.Group X) → is_group g (flat x) ≡ same_guid g x.0
  unfolding is_group flat
  is_flat g x = refl

  ascends_first : (x : Guid × S.Group X) (m : List (Guid × S.Group X)) → ascends guids (x ∷ m) ≡ true → list_all (λ y. guids.less x.0 y.0) m ≡ true
  unfolding ascends
  ascends_first x m e = and_left (list_all (λ y. guids.less x.0 y.0) m) _ e

  ascends_rest : (x : Guid × S.Group X) (m : List (Guid × S.Group X)) → ascends guids (x ∷ m) ≡ true → ascends guids m ≡ true
  unfolding ascends
  ascends_rest x m e = and_right (list_all (λ y. guids.less x.0 y.0) m) _ e

  same_flat : (g : Guid) (x : Guid × S.Group X) → same_guid g x.0 ≡ true → flat x ≡ flat (g, x.1)
  unfolding flat
  same_flat g x e = ap (λ k. flat (k, x.1)) (sym (same_eq g x.0 e))

  -- hearing of a group, and changing it, as the map's entry
  pub hear_flat : (g : Guid) (v : S.Group X) (f : Group → Group) (m : List (Guid × S.Group X)) → ascends guids m ≡ true
      → f (flat (g, or_default no_group (get guids g m))) ≡ flat (g, v)
      → change (λ x. is_group g x) f (hear_group g (map (λ x. flat x) m)) ≡ map (λ x. flat x) (insert guids g v m)
  unfolding insert get flat guids is_group
  hear_flat g v f [] e h = ap (λ l. change (λ x. is_group g x) f l) (hear_none g) ∙ change_here (λ x. is_group g x) f (new_group g) [] (own_new g) ∙ ap (λ z. z ∷ []) (ap f (sym (new_flat X g)) ∙ h)
  hear_flat g v f (x ∷ m) e h =
      (elim (same_guid g x.0) as (λ t. same_guid g x.0 ≡ t → change (λ y. is_group g y) f (hear_group g (flat x ∷ map (λ x. flat x) m)) ≡ map (λ x. flat x) (insert guids g v (x ∷ m))) [
        | true ↦ λ d. rw (hear_here g (flat x) (map (λ x. flat x) m) (is_flat g x ∙ d), change_here (λ y. is_group g y) f (flat x) (map (λ x. flat x) m) (is_flat g x ∙ d), insert_here g v x m d)
            (ap (λ z. z ∷ map (λ x. flat x) m) (ap f (same_flat g x d ∙ ap (λ r. flat (g, or_default no_group r)) (sym (get_found guids_lawful g x m d))) ∙ h))
        | false ↦ λ d. (elim (before g x.0) as (λ t. before g x.0 ≡ t → change (λ y. is_group g y) f (hear_group g (flat x ∷ map (λ x. flat x) m)) ≡ map (λ x. flat x) (insert guids g v (x ∷ m))) [
          | true ↦ λ b.
              let a = above_all g x m b (ascends_first x m e) in
              rw (hear_before g (flat x) (map (λ x. flat x) m) (unknown_before g x m d a) b, change_here (λ y. is_group g y) f (new_group g) (flat x ∷ map (λ x. flat x) m) (own_new g), insert_before g v x m d b)
              (ap (λ z. z ∷ flat x ∷ map (λ x. flat x) m) (ap f (sym (new_flat X g) ∙ ap (λ r. flat (g, or_default no_group r)) (sym (get_past guids_lawful g x m d ∙ get_above guids_lawful g m a))) ∙ h))
          | false ↦ λ b.
              rw (hear_past g (flat x) (map (λ x. flat x) m) d b, change_past (λ y. is_group g y) f (flat x) (hear_group g (map (λ x. flat x) m)) (is_flat g x ∙ d), insert_past g v x m d b)
              (ap (λ l. flat x ∷ l) (hear_flat g v f m (ascends_rest x m e) (ap (λ r. f (flat (g, or_default no_group r))) (sym (get_past guids_lawful g x m d)) ∙ h)))
        ]) refl
      ]) refl
