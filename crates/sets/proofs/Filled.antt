-- A list that is filled as far as it has room.
use Rattle.std.proofs.Common.{◌≡◌, refl, ℕ, ◌+◌, List, [], ◌∷◌, ◌++◌, ◌<◌, length, take, sym, ap, ◌∙◌, arith, length-append}
use Rattle.std.specs.Prelude.{Option, Result, Ok, Err, IsOk, OnErr, OnOk, ◌↔◌}
use Rattle.fixed_list.specs.FixedList.{FixedList}
use Rattle.std.specs.Result.{MatchResult}
use Rattle.std.specs.Iterator.{Drains, Yields}
use Rattle.std.proofs.lemmas.Iterator.{YieldsList}
use Rattle.std.proofs.lemmas.Iterator.Consumers.{YieldsList-so_far, YieldsList-at}
use Rattle.std.proofs.lemmas.Iterator.Adapters.{items_from_extend}
use Rattle.std.proofs.lemmas.List.{map-id, take-take}
use Rattle.std.proofs.Math.Seq.{take-append-add, take-append_seam}
use lib.Seq.{take_all}

-- old is extended by the first of all that its room takes, room being what it lacks to n
pub filled : {T A E : Type 0} {steps : T → Option A → T → Type 0} {s : T} (n room : ℕ) (old new all : List A) (r : Result (Unit {0}) E)
    → ((it : T) × (xs : List A) × (it ≡ s) × (new ≡ old ++ xs) × MatchResult r (λ _. Drains steps it xs) (λ _. (t : T) × Yields steps it xs t))
    → OnErr r (length new ≡ n) → room + length old ≡ n → YieldsList steps (λ x. x) s (take room all) → new ≡ take n (old ++ all)
filled {T} {steps = steps} n room old new all r ran full fits road =
    let xs = ran.1 in
    let short : length new ≡ n → (t : T) × Yields steps ran.0 xs t → xs ≡ take room all =
    λ f y.
    sym (map-id xs) ∙ YieldsList-so_far (YieldsList-at ran.2 road) xs y.0 y.1
    ∙ ap (λ k. take k (take room all)) (omega (arith, f, fits, ap length ran.3, length-append old xs))
    ∙ take-take room room all (omega arith) in
    let is : new ≡ old ++ take room all =
    (elim r as (λ v. OnOk v (new ≡ old ++ take room all) → OnErr v (length new ≡ n) → MatchResult v (λ _. Drains steps ran.0 xs) (λ _. (t : T) × Yields steps ran.0 xs t) → new ≡ old ++ take room all) [
      | Ok u ↦ λ h f m. h
      | Err e ↦ λ h f m. ran.3 ∙ ap (λ l. old ++ l) (short f m)
    ]) (items_from_extend r ran road) full ran.4 in
    is ∙ sym (ap (λ k. take k (old ++ all)) (omega (arith, fits)) ∙ take-append-add old all room)

-- one is put behind those that are there, where it has room
pub pushed : {A E : Type 0} (n : ℕ) (old new : FixedList A) (a : A) (r : Result (Unit {0}) E)
    → (IsOk r ↔ (length old.items < n)) → OnOk r (new.items ≡ old.items ++ (a ∷ [])) → OnErr r (new ≡ old) → OnErr r (length old.items ≡ n) → new.items ≡ take n (old.items ++ (a ∷ []))
pushed n old new a (Ok u) v p q k = p ∙ sym (take_all n (old.items ++ (a ∷ [])) (omega (arith, v.0 refl, length-append old.items (a ∷ []))))
pushed n old new a (Err e) v p q k = ap (λ x. x.items) q ∙ sym (ap (λ m. take m (old.items ++ (a ∷ []))) (sym k) ∙ take-append_seam old.items (a ∷ []))
