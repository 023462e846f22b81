-- The store that a state stands for, so that a value seen as a state gives its store back. No public clause cites this module.
use Rattle.std.specs.Prelude.{ℕ, ◌≡◌, ◌+◌, Bool, true, false, [], length, leb}
use Rattle.std.proofs.Common.{refl, sym, ◌∙◌, true≢false}
use Rattle.std.proofs.Math.Bridge.{le_prop}
use Rattle.std.proofs.lemmas.Bool.{le-leb, leb-true}
use Rattle.rules.specs.State.{State}
use Rattle.store.specs.Store.{state_of}
use Rattle.store.specs.declared.Store.{Store}

-- a state of more than 256 entries is no store's, and any store will do
store_if : (s : State ℕ) (few : Bool) → leb (length s.pending + length s.held) 256 ≡ few → Store
store_if s true e = record {
  timeout = s.timeout;
  groups = record { items = s.groups };
  writers = record { items = s.writers };
  pending = record { items = s.pending };
  sets = record { held = record { items = s.held }; counts = s.counts };
  few = leb-true _ _ e;
}
store_if s false e = record {
  timeout = s.timeout;
  groups = record { items = s.groups };
  writers = record { items = s.writers };
  pending = record { items = [] };
  sets = record { held = record { items = [] }; counts = s.counts };
  few = leb-true 0 256 refl;
}

pub store_of : State ℕ → Store
store_of s = store_if s (leb (length s.pending + length s.held) 256) refl

back_if : (s : Store) (few : Bool) (e : leb (length s.pending.items + length s.sets.held.items) 256 ≡ few) → store_if (state_of s) few e ≡ s
unfolding store_if
back_if s true e = λ i. record {
  timeout = s.timeout;
  groups = s.groups;
  writers = s.writers;
  pending = s.pending;
  sets = s.sets;
  few = le_prop (leb-true _ _ e) s.few i;
}
back_if s false e = absurd (true≢false (sym (le-leb (length s.pending.items + length s.sets.held.items) 256 s.few) ∙ e))

-- each store is the one of its state
pub store_back : (s : Store) → store_of (state_of s) ≡ s
unfolding store_of
store_back s = back_if s (leb (length s.pending.items + length s.sets.held.items) 256) refl
