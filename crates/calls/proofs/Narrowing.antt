-- What is stored prints as it is: no call stores a sample whose place doesn't hold it.
use Prim.Native.Nat.{ℕ, ◌^◌, ◌<◌}
use mathlib.Core.Path.{◌≡◌, refl}
use mathlib.Core.Bool.{Bool, true, false, not, ◌&&◌, cond}
use mathlib.Core.List.{List, [], ◌∷◌}
use native.Mathlib.Omega.{arith}
use borrow.Author.Tests.{lt-ltb}
use Rattle.std.specs.Prelude.{Option, None, Some}
use lib.ListN.{length}
use Rattle.laws.specs.Lists.{filter, list_all, count, find}
use Rattle.laws.proofs.Lists.{and_left, count_append, count_one, count_keep, weight_none}
use Rattle.rules.specs.Entry.{is_sample_w, is_sample}
use Rattle.rules.specs.declared.entry.Entry.{Entry}
use Rattle.rules.specs.declared.entry.What.{What}
use Rattle.rules.specs.declared.entry.What.TheVariants.{Sample, End}
use Rattle.rules.specs.declared.call.Offer.{Offer}
use Rattle.rules.specs.declared.call.Heartbeat.{Heartbeat}
use Rattle.rules.specs.declared.call.Gap.{Gap}
use Rattle.rules.specs.declared.call.Fate.{Fate}
use Rattle.rules.specs.declared.call.Fate.TheVariants.{Stored, Joined, Late}
use Rattle.rules.specs.State.{State, fresh}
use Rattle.rules.specs.Offer as O
use Rattle.rules.specs.Release.{View, release, released, back_to}
use Rattle.rules.proofs.Stays.{release_cases}
use Rattle.rules.proofs.Conserve.{stock, released_stock}
use Rattle.calls.specs.Narrow.{wide_w, wide, Narrow}

pub fresh_narrow : (t : ℕ) → Narrow (fresh t)
unfolding Narrow fresh count
fresh_narrow t = refl

-- ---- an offer

by_what : (r : ℕ) (w : What ℕ) → r < 256 → ((i : ℕ) → w ≡ Sample i → i < 2 ^ 32) → wide_w r w ≡ false
unfolding wide_w
by_what r (Sample i) h k = rw (lt-ltb r 256 h, lt-ltb i (2 ^ 32) (k i refl))
by_what r (End u) h k = refl

placed : (f : Fate) (e : Entry ℕ) (s : State ℕ) → wide_w e.reader e.what ≡ false → Narrow s → Narrow (O.place f e s)
unfolding Narrow O.place O.join O.keep_end O.marked wide
placed Stored e s w n =
    omega (arith, n, count_append (λ e. wide_w e.reader e.what) s.pending (e ∷ []), count_one (λ e. wide_w e.reader e.what) e, weight_none (wide_w e.reader e.what) w)
placed Joined e s w n =
    let m = O.mark_of (find (λ h. O.replaced e h) s.held) in
    let l = filter (λ h. not (O.replaced e h)) s.held in
    omega (
      arith,
      n,
      count_append (λ e. wide_w e.reader e.what) l (O.marked m e ∷ []),
      count_one (λ e. wide_w e.reader e.what) (O.marked m e),
      weight_none (wide_w e.reader e.what) w,
      count_keep (λ h. not (O.replaced e h)) (λ e. wide_w e.reader e.what) s.held,
    )
placed Late e s w n = n

pub offer_narrow : (s : State ℕ) (o : Offer ℕ) → o.reader < 256 → ((i : ℕ) → o.what ≡ Sample i → i < 2 ^ 32) → Narrow s → Narrow (O.offer s o).1
unfolding O.offer O.heard_offer O.with_marks O.entry_of Narrow
offer_narrow s o r k n =
    elim (O.offer_refusal s o) as (λ x. Narrow (O.offered x s o).1) [
      | Some m ↦ n
      | None ↦ placed (O.fate_of s o) (O.entry_of o) (O.heard_offer o s) (by_what o.reader o.what r k) n
    ]

-- ---- a heartbeat and a gap

done_narrow : (r : Option ℕ) (s t : State ℕ) → Narrow s → Narrow t → Narrow (O.done r s t).1
done_narrow (Some n) s t a b = a
done_narrow None s t a b = b

pub heartbeat_narrow : (s : State ℕ) (h : Heartbeat) → Narrow s → Narrow (O.heartbeat s h).1
unfolding O.heartbeat O.with_marks Narrow
heartbeat_narrow s h n = done_narrow _ s _ n n

pub gap_narrow : (s : State ℕ) (g : Gap) → Narrow s → Narrow (O.gap s g).1
unfolding O.gap O.with_marks Narrow
gap_narrow s g n = done_narrow _ s _ n n

-- ---- a release

wide_sample : (e : Entry ℕ) → wide e ≡ true → is_sample e ≡ true
unfolding wide wide_w is_sample
wide_sample e h = and_left (is_sample_w e.what) _ h

pub release_narrow : (s : State ℕ) (v : View) (now room : ℕ) → Narrow s → Narrow (release s v now room).1
unfolding Narrow back_to stock
release_narrow s v now room n =
    let b = released_stock (λ e. wide e) wide_sample s v now in
    release_cases (λ r t. Narrow t) s v now room n (omega (arith, b, n))

zero_none : {A : Type 0} (p : A → Bool) (l : List A) → count p l ≡ 0 → list_all (λ a. not (p a)) l ≡ true
unfolding count
zero_none p [] h = refl
zero_none p (a ∷ l) h =
    (elim (p a) as (λ b. length (cond b (a ∷ filter p l) (filter p l)) ≡ 0 → not b && list_all (λ x. not (p x)) l ≡ true) [
      | true ↦ λ e. absurd (omega (arith, e))
      | false ↦ λ e. zero_none p l e
    ]) h

pub out_narrow : (s : State ℕ) (v : View) (now : ℕ) → Narrow s → list_all (λ e. not (wide e)) (released s v now).1.out ≡ true
unfolding Narrow stock
out_narrow s v now n =
    let w = (released s v now).1 in
    let b = released_stock (λ e. wide e) wide_sample s v now in
    zero_none (λ e. wide e) w.out (omega (arith, b, n))
