-- The lines read from the front, a field at a time, by the fields behind the letter.
use Rattle.std.specs.Prelude.{ℕ, ◌-◌, ◌^◌, cond, List, eqb, ℤ, length, drop, option_and_then}
use Rattle.std.specs.Prelude.{Option, None, Some}
use Rattle.decimal.specs.Read.{read_unsigned, read_signed}
use Rattle.fields.specs.Fields.{up_to}
use Rattle.fields.specs.Left.{first_as}
use Rattle.guids.specs.Guid.{Guid}
use Rattle.rules.specs.Entry.{set_end}
use Rattle.rules.specs.declared.entry.What.{What}
use Rattle.rules.specs.declared.entry.What.TheVariants.{Sample}
use Rattle.call_line.specs.declared.line.Line.{Line}
use Rattle.call_line.specs.declared.line.Line.TheVariants as L
use Rattle.call_line.specs.declared.parse.OfferHead.{OfferHead}
use Rattle.call_line.specs.Line.{◌⊛◌, optional, guid_of, offer_of}

-- what d makes of the first field, and of that and the fields behind it what `go` does
unfoldable pub taking : {A B : Type 0} → (List ℕ → Option A) → (A → List (List ℕ) → Option B) → List (List ℕ) → Option B
taking d go l = option_and_then (λ a. go a (drop 1 l)) (first_as d l)

-- a where no field is left
unfoldable pub ending : {A : Type 0} → A → List (List ℕ) → Option A
ending a l = cond (eqb (length l) 0) (Some a) None

-- ---- the kinds of field

unfoldable pub guid_as : List ℕ → Option Guid
guid_as s = Some (λ n. guid_of n) ⊛ up_to (2 ^ 8 - 1) s

abbrev pub guid_then : {B : Type 0} → (Guid → List (List ℕ) → Option B) → List (List ℕ) → Option B
guid_then go = taking (λ f. guid_as f) go

abbrev pub byte_then : {B : Type 0} → (ℕ → List (List ℕ) → Option B) → List (List ℕ) → Option B
byte_then go = taking (λ f. up_to (2 ^ 8 - 1) f) go

abbrev pub word_then : {B : Type 0} → (ℕ → List (List ℕ) → Option B) → List (List ℕ) → Option B
word_then go = taking (λ f. up_to (2 ^ 32 - 1) f) go

abbrev pub long_then : {B : Type 0} → (ℕ → List (List ℕ) → Option B) → List (List ℕ) → Option B
long_then go = taking (λ f. read_unsigned f) go

abbrev pub number_then : {B : Type 0} → (ℤ → List (List ℕ) → Option B) → List (List ℕ) → Option B
number_then go = taking (λ f. read_signed f) go

abbrev pub number_if_then : {B : Type 0} → (Option ℤ → List (List ℕ) → Option B) → List (List ℕ) → Option B
number_if_then go = taking (λ f. optional (read_signed f) f) go

abbrev pub word_if_then : {B : Type 0} → (Option ℕ → List (List ℕ) → Option B) → List (List ℕ) → Option B
word_if_then go = taking (λ f. optional (up_to (2 ^ 32 - 1) f) f) go

-- ---- the lines

abbrev pub take_timeout : List (List ℕ) → Option Line
take_timeout = long_then (λ t. ending (L.Timeout t))

abbrev pub take_counted : List (List ℕ) → Option Line
take_counted = guid_then (λ g. guid_then (λ w. byte_then (λ r. ending (L.Counted (record { group = g; writer = w; reader = r })))))

abbrev pub take_digest : List (List ℕ) → Option Line
take_digest = guid_then (λ g. word_then (λ d. ending (L.Digest (record { group = g; digest = d }))))

abbrev pub take_head : (OfferHead → List (List ℕ) → Option Line) → List (List ℕ) → Option Line
take_head go =
    guid_then (λ g. guid_then (λ w. byte_then (λ r. number_then (λ n. number_if_then (λ s. word_then (λ d.
    go (record { group = g; writer = w; reader = r; number = n; set = s; digest = d })))))))

abbrev pub offer_by : OfferHead → What ℕ → ℕ → Line
offer_by h x t = offer_of h.group h.writer h.reader h.number h.set h.digest x t

abbrev pub take_sample : List (List ℕ) → Option Line
take_sample = take_head (λ h. word_then (λ i. long_then (λ t. ending (offer_by h (Sample i) t))))

abbrev pub take_end : List (List ℕ) → Option Line
take_end = take_head (λ h. number_if_then (λ f. number_if_then (λ o. long_then (λ t. ending (offer_by h (set_end f o) t)))))

abbrev pub take_heartbeat : List (List ℕ) → Option Line
take_heartbeat =
    guid_then (λ g. guid_then (λ w. number_then (λ f. number_then (λ l. number_then (λ c. word_if_then (λ d. word_if_then (λ s.
    ending (L.Heartbeat (record { group = g; writer = w; first = f; last = l; current = c; digest = d; secure = s })))))))))

abbrev pub take_gap : List (List ℕ) → Option Line
take_gap =
    guid_then (λ g. guid_then (λ w. byte_then (λ r. number_then (λ n. ending (L.Gap (record { group = g; writer = w; reader = r; number = n }))))))

abbrev pub take_release : List (List ℕ) → Option Line
take_release = long_then (λ t. ending (L.Release t))
