-- A release asks of the counted rows only whether all of them pass a test, so rows that stand several times may be left out.
use Rattle.std.specs.Prelude.{ℕ, zero, suc, ◌-◌, Bool, true, false, ◌&&◌, ◌||◌, not, List, [], ◌∷◌, ℤ, Option, Some, None, leb, eqb, ◌≡◌}
use Rattle.std.proofs.Common.{refl, sym, ap, ◌∙◌}
use Rattle.laws.specs.Lists.{list_all, list_any, find}
use Rattle.guids.specs.Guid.{Guid, same_guid}
use Rattle.rules.specs.Entry.{Entry, is_end_of, is_member}
use Rattle.rules.specs.Sets.{Pair, end_missing, agrees, whole, lowest_ended}
use Rattle.rules.specs.Commit.{Turn, pair_past, all_from, ruled_out, copies_arrived, ready, digests_accepted, head_of, is_head, next}
use Rattle.rules.specs.Release.{Work, commit, commit_if, head_step, finish_or, finish, finish_if, waits, end_step, round, or_stop, rounds, young}

-- the turn with these rows
unfoldable pub with_counted : List Pair → Turn → Turn
with_counted c t = record { guid = t.guid; announced = t.announced; writers = t.writers; counted = c; digests = t.digests; now = t.now; timeout = t.timeout }

any_all : (p : Pair → Bool) (l : List Pair) → list_any p l ≡ not (list_all (λ x. not (p x)) l)
any_all p [] = refl
any_all p (x ∷ l) = (elim (p x) as (λ b. b || list_any p l ≡ not (not b && list_all (λ y. not (p y)) l)) [ true ↦ refl | false ↦ any_all p l ])

module _ (c d : List Pair) (h : (p : Pair → Bool) → list_all p c ≡ list_all p d) where
  any_same : (p : Pair → Bool) → list_any p c ≡ list_any p d
  any_same p = any_all p c ∙ ap not (h (λ x. not (p x))) ∙ sym (any_all p d)

  module _ {X : Type 0} where
    missing_same : (g : Guid) (z : ℤ) (l : List (Entry X)) → end_missing g z c l ≡ end_missing g z d l
    unfolding end_missing
    missing_same g z l = any_same (λ p. not (list_any (λ h. is_end_of g z p.writer p.reader h) l))

    pub whole_same : (g : Guid) (z : ℤ) (l : List (Entry X)) → whole g z c l ≡ whole g z d l
    unfolding whole
    whole_same g z l = λ i. not (missing_same g z l i) && h (λ p. agrees g z l p) i

    ready_same : (t : Turn) (k n : ℕ) (l : List (Entry X)) → ready (with_counted c t) k n l ≡ ready (with_counted d t) k n l
    unfolding ready ruled_out copies_arrived with_counted pair_past digests_accepted head_of is_head
    ready_same t k n l = λ i.
        (eqb n (suc k)
        || (leb n t.announced && digests_accepted (with_counted c t)
        && all_from (suc k) (n - suc k) (λ m. h (λ p. pair_past (with_counted c t) p.writer p.reader m) i)))
        && list_all
        (λ e. h (λ p. not (same_guid e.writer p.writer) || list_any (λ o. eqb p.reader o.reader) (head_of (with_counted c t) n l) || pair_past (with_counted c t) p.writer p.reader n) i)
        (head_of (with_counted c t) n l)

    pub waits_same : (t : Turn) (z : ℤ) (l : List (Entry X)) → waits (with_counted c t) z l ≡ waits (with_counted d t) z l
    unfolding waits with_counted young
    waits_same t z l = ap (λ b. b && young (with_counted c t) (find (λ e. is_member t.guid z e) l)) (missing_same t.guid z l)

    finish_same : (b : Bool) (t : Turn) (z : ℤ) (w : Work X) → finish_or b (with_counted c t) z w ≡ finish_or b (with_counted d t) z w
    unfolding finish with_counted
    finish_same true t z w = refl
    finish_same false t z w = ap (λ b. Some (finish_if b t.guid z w)) (whole_same t.guid z w.held)

    -- a commit asks no row
    commit_same : (b y : Bool) (t : Turn) (n : ℕ) (w : Work X) → commit_if b y (with_counted c t) n w ≡ commit_if b y (with_counted d t) n w
    unfolding commit with_counted head_of is_head
    commit_same true y t n w = refl
    commit_same false true t n w = refl
    commit_same false false t n w = refl

    head_same : (t : Turn) (w : Work X) (n : Option ℕ) → head_step (with_counted c t) w n ≡ head_step (with_counted d t) w n
    unfolding with_counted is_head young
    head_same t w None = refl
    head_same t w (Some n) =
        ap (λ b. commit_if b (young t (find (λ e. is_head t n e) w.pending)) (with_counted c t) n w) (ready_same t w.committed n w.pending)
        ∙ commit_same (ready (with_counted d t) w.committed n w.pending) (young t (find (λ e. is_head t n e) w.pending)) t n w

    round_same : (t : Turn) (w : Work X) → round (with_counted c t) w ≡ round (with_counted d t) w
    unfolding round with_counted next
    round_same t w =
        (elim (lowest_ended t.guid w.held) as (λ o. end_step (with_counted c t) w o ≡ end_step (with_counted d t) w o) [
          | Some z ↦ ap (λ b. finish_or b (with_counted c t) z w) (waits_same t z w.held) ∙ finish_same (waits (with_counted d t) z w.held) t z w
          | None ↦ head_same t w (next t w.pending)
        ])

  pub rounds_same : {X : Type 0} (k : ℕ) (t : Turn) (w : Work X) → rounds k (with_counted c t) w ≡ rounds k (with_counted d t) w
  unfolding rounds
  rounds_same zero t w = refl
  rounds_same (suc k) t w =
      ap (or_stop (λ v. rounds k (with_counted c t) v) w) (round_same t w)
      ∙ (elim (round (with_counted d t) w) as (λ o. or_stop (λ v. rounds k (with_counted c t) v) w o ≡ or_stop (λ v. rounds k (with_counted d t) v) w o) [ None ↦ refl | Some v ↦ rounds_same k t v ])
