-- BTreeMap and BTreeSet: lists in ascending order of their keys, each key once.
use Rattle.std.specs.Prelude.{ℕ, Bool, true, ◌&&◌, ◌||◌, not, cond, List, [], ◌∷◌, ℤ, ltb, eqb}
use Rattle.std.specs.Prelude.{Option, Some, None}
use Rattle.std.specs.Int.Signed.{lt_z}
use Rattle.laws.specs.Whole.{eq_z}
use Rattle.laws.specs.Lists.{filter, list_all}
use Rattle.guids.specs.Guid.{Guid, same_guid, before}

-- Ord of a key's type
pub record Order (K : Type 0) : Type 0 where
  pub less : K → K → Bool
  pub same : K → K → Bool

unfoldable pub guids : Order Guid
guids = record { less = λ a b. before a b; same = λ a b. same_guid a b }

unfoldable pub numbers : Order ℤ
numbers = record { less = λ a b. lt_z a b; same = λ a b. eq_z a b }

unfoldable pub readers : Order ℕ
readers = record { less = λ a b. ltb a b; same = λ a b. eqb a b }

-- (WriterGuid, R)
unfoldable pub pairs : Order (Guid × ℕ)
pairs = record {
  less = λ a b. before a.0 b.0 || (same_guid a.0 b.0 && ltb a.1 b.1);
  same = λ a b. same_guid a.0 b.0 && eqb a.1 b.1;
}

abbrev pub or_default : {A : Type 0} → A → Option A → A
or_default d None = d
or_default d (Some v) = v

module _ {K A : Type 0} (o : Order K) where
  -- get
  unfoldable pub get : K → List (K × A) → Option A
  get k [] = None
  get k (x ∷ m) = cond (o.same k x.0) (Some x.1) (get k m)

  -- insert: the value of the key, replaced where it is there
  unfoldable pub insert : K → A → List (K × A) → List (K × A)
  insert k v [] = (k, v) ∷ []
  insert k v (x ∷ m) = cond (o.same k x.0) ((k, v) ∷ m) (cond (o.less k x.0) ((k, v) ∷ x ∷ m) (x ∷ insert k v m))

  -- entry(k).or_default() (or .or_insert(d)), then changed in place
  unfoldable pub entry : A → K → (A → A) → List (K × A) → List (K × A)
  entry d k f m = insert k (f (or_default d (get k m))) m

  unfoldable pub remove : K → List (K × A) → List (K × A)
  remove k m = filter (λ x. not (o.same k x.0)) m

  unfoldable pub ascends : List (K × A) → Bool
  ascends [] = true
  ascends (x ∷ m) = list_all (λ y. o.less x.0 y.0) m && ascends m

-- BTreeSet
module _ {K : Type 0} (o : Order K) where
  unfoldable pub put : K → List K → List K
  put k [] = k ∷ []
  put k (x ∷ m) = cond (o.same k x) (x ∷ m) (cond (o.less k x) (k ∷ x ∷ m) (x ∷ put k m))

  unfoldable pub collect : List K → List K
  collect [] = []
  collect (k ∷ l) = put k (collect l)
