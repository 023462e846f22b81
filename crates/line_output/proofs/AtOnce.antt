-- Lines that are answered in turn, each answer written by itself.
use Rattle.std.proofs.Common.{◌≡◌, ℕ, ◌+◌, List, [], ◌∷◌, ◌++◌, length, Option, None, Some, refl, sym, subst, arith, true≢false, append-nil, length-append}
use Rattle.std.specs.Prelude.{◌⊎◌, ◌-◌, ◌^◌, Result, Ok, Err, flat_map}
use Rattle.std.specs.Result.{IsErr}
use Rattle.std.specs.Io.KnownBytes.{Appends}
use Rattle.std.specs.List.{FoldsTo}
use Rattle.std.proofs.lemmas.Fn.{FoldsTo-push}
use Rattle.line_input.specs.declared.Lines.{Lines}
use Rattle.line_input.specs.Input.{NextLine}
use Rattle.line_output.specs.AtOnce.{Call, TurnAtOnce, AnsweredAtOnce}
use Rattle.line_output.proofs.Running.{texts_more}
use Rattle.line_output.proofs.Writing.{added_on}

nothing_added : (a : Option (List ℕ)) → Appends a a []
nothing_added None = tt
nothing_added (Some x) = sym (append-nil x)

module _
    {A R W : Type 0} (answers : A → List ℕ → List ℕ → List ℕ → A → Type 0)
    (remaining : R → Option (List ℕ)) (contents : W → Option (List ℕ)) where
  -- the turns so far
  pub record Writing (a₀ : A) (l₀ : Lines R) (w₀ : W) (n : ℕ) (a : A) (l : Lines R) (w : W) : Type 0 where
    pub said : List (List ℕ × List ℕ)
    pub count : length said ≡ n
    pub turns : FoldsTo (TurnAtOnce answers remaining contents) (a₀, l₀, w₀) said (a, l, w)
    pub written : Appends (contents w₀) (contents w) (flat_map (λ x. x.1) said)

  module _ {a₀ : A} {l₀ : Lines R} {w₀ : W} where
    pub writing_begun : Writing a₀ l₀ w₀ 0 a₀ l₀ w₀
    writing_begun = record { said = []; count = refl; turns = refl; written = nothing_added (contents w₀) }

    module _ {n : ℕ} {a : A} {l : Lines R} {w : W} (t : Writing a₀ l₀ w₀ n a l w) where
      pub writing_turned : (x : List ℕ × List ℕ) (a' : A) (l' : Lines R) (w' : W) → TurnAtOnce answers remaining contents (a, l, w) x (a', l', w')
          → Writing a₀ l₀ w₀ (n + 1) a' l' w'
      writing_turned x a' l' w' turn =
          record {
            said = t.said ++ x ∷ [];
            count = omega (arith, t.count, length-append t.said (x ∷ []));
            turns =
                FoldsTo-push (TurnAtOnce answers remaining contents) (a₀, l₀, w₀) t.said (a, l, w) x (a', l', w') t.turns turn;
            written =
                subst (λ y. Appends (contents w₀) (contents w') y) (sym (texts_more t.said x))
                (added_on (contents w₀) (contents w) (contents w') (flat_map (λ x. x.1) t.said) x.1 t.written turn.written);
          }

      -- there is no further line, or there were too many
      pub writing_ended : {E : Type 0} (l' : Lines R) → (n ≡ 2 ^ 64 - 1) ⊎ NextLine remaining l None l'
          → AnsweredAtOnce answers remaining contents {E = E} a₀ l₀ w₀ a l' w (Ok tt)
      writing_ended l' e =
          record {
            said = t.said;
            last = a;
            at = l;
            out = w;
            turns = t.turns;
            written = t.written;
            ended = (refl, refl, subst (λ k. (k ≡ 2 ^ 64 - 1) ⊎ NextLine remaining l None l') (sym t.count) e);
          }

      -- a write failed
      pub writing_failed : {E : Type 0} (r : Result (Unit {0}) E) → IsErr r → (x : List ℕ × List ℕ) (a' : A) (l' : Lines R) (w' : W)
          → Call answers remaining contents a l x a' l' → AnsweredAtOnce answers remaining contents a₀ l₀ w₀ a' l' w' r
      writing_failed (Ok u) h x a' l' w' call = absurd (true≢false (sym h))
      writing_failed (Err e) h x a' l' w' call =
          record { said = t.said; last = a; at = l; out = w; turns = t.turns; written = t.written; ended = (x, call) }
