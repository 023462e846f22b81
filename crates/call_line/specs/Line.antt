-- A line of the call list and what it spells (document 01, "One call list, whole").
use Rattle.std.specs.Prelude.{ℕ, cond, List, [], ◌∷◌, ◌++◌, eqb, ℤ, length, replicate}
use Rattle.std.specs.Prelude.{Option, None, Some}
use Rattle.fields.specs.Fields.{fields_of, field_at, only, byte, word, long, number}
use Rattle.guids.specs.Guid.{Guid}
use Rattle.rules.specs.Entry.{set_end}
use Rattle.rules.specs.declared.entry.What.{What}
use Rattle.rules.specs.declared.entry.What.TheVariants.{Sample}
use Rattle.call_line.specs.declared.line.Line.{Line}
use Rattle.call_line.specs.declared.line.Line.TheVariants as L

-- ---- what a field spells; none where it is bad

infixl 40 ◌⊛◌
-- a function of fields that are all good
unfoldable pub ◌⊛◌ : {A B : Type 0} → Option (A → B) → Option A → Option B
None ⊛ a = None
(Some f) ⊛ None = None
(Some f) ⊛ (Some a) = Some (f a)

-- `-`, 45, is absent
unfoldable pub optional : {A : Type 0} → Option A → List ℕ → Option (Option A)
optional r s = cond (eqb (only s) 45) (Some None) (Some (λ a. Some a) ⊛ r)

-- GUID k is fifteen zero bytes and k
unfoldable pub guid_of : ℕ → Guid
guid_of k = replicate 15 0 ++ (k ∷ [])

unfoldable pub guid : ℕ → List ℕ → Option Guid
guid k l = Some (λ n. guid_of n) ⊛ byte k l

unfoldable pub number_if : ℕ → List ℕ → Option (Option ℤ)
number_if k l = optional (number k l) (field_at k l)

unfoldable pub word_if : ℕ → List ℕ → Option (Option ℕ)
word_if k l = optional (word k l) (field_at k l)

-- ---- the lines

-- with as many fields
unfoldable pub sized : {A : Type 0} → ℕ → List ℕ → Option A → Option A
sized n l r = cond (eqb (length (fields_of l)) n) r None

-- an offer by its fields
abbrev pub offer_of : Guid → Guid → ℕ → ℤ → Option ℤ → ℕ → What ℕ → ℕ → Line
offer_of g w r m s d x t = L.Offer (record { group = g; writer = w; reader = r; number = m; set = s; digest = d; what = x; time = t })

-- `T` timeout
unfoldable pub start_line : List ℕ → Option Line
start_line l = sized 2 l (Some (λ t. L.Timeout t) ⊛ long 1 l)

-- `V` group writer reader
unfoldable pub counted_line : List ℕ → Option Line
counted_line l =
    sized 4 l (Some (λ g w r. L.Counted (record { group = g; writer = w; reader = r })) ⊛ guid 1 l ⊛ guid 2 l ⊛ byte 3 l)

-- `D` group digest
unfoldable pub digest_line : List ℕ → Option Line
digest_line l = sized 3 l (Some (λ g d. L.Digest (record { group = g; digest = d })) ⊛ guid 1 l ⊛ word 2 l)

-- `S` group writer reader number set digest item time
unfoldable pub sample_line : List ℕ → Option Line
sample_line l =
    sized 9 l
    (Some (λ g w r m s d i t. offer_of g w r m s d (Sample i) t)
    ⊛ guid 1 l ⊛ guid 2 l ⊛ byte 3 l ⊛ number 4 l ⊛ number_if 5 l ⊛ word 6 l ⊛ word 7 l ⊛ long 8 l)

-- `E` group writer reader number set digest first own time
unfoldable pub end_line : List ℕ → Option Line
end_line l =
    sized 10 l
    (Some (λ g w r m s d f o t. offer_of g w r m s d (set_end f o) t)
    ⊛ guid 1 l ⊛ guid 2 l ⊛ byte 3 l ⊛ number 4 l ⊛ number_if 5 l ⊛ word 6 l ⊛ number_if 7 l ⊛ number_if 8 l ⊛ long 9 l)

-- `H` group writer first last current digest secure
unfoldable pub heartbeat_line : List ℕ → Option Line
heartbeat_line l =
    sized 8 l
    (Some (λ g w f m c d s. L.Heartbeat (record { group = g; writer = w; first = f; last = m; current = c; digest = d; secure = s }))
    ⊛ guid 1 l ⊛ guid 2 l ⊛ number 3 l ⊛ number 4 l ⊛ number 5 l ⊛ word_if 6 l ⊛ word_if 7 l)

-- `G` group writer reader number
unfoldable pub gap_line : List ℕ → Option Line
gap_line l =
    sized 5 l
    (Some (λ g w r n. L.Gap (record { group = g; writer = w; reader = r; number = n })) ⊛ guid 1 l ⊛ guid 2 l ⊛ byte 3 l ⊛ number 4 l)

-- `R` time
unfoldable pub release_line : List ℕ → Option Line
release_line l = sized 2 l (Some (λ t. L.Release t) ⊛ long 1 l)

-- by the letter in ASCII
unfoldable pub line_by : ℕ → List ℕ → Option Line
line_by c l =
    cond (eqb c 84) (start_line l)
    (cond (eqb c 86) (counted_line l)
    (cond (eqb c 68) (digest_line l)
    (cond (eqb c 83) (sample_line l)
    (cond (eqb c 69) (end_line l)
    (cond (eqb c 72) (heartbeat_line l)
    (cond (eqb c 71) (gap_line l)
    (cond (eqb c 82) (release_line l) None)))))))

-- none: `bad`
unfoldable pub line_of : List ℕ → Option Line
line_of l = line_by (only (field_at 0 l)) l
