-- Lines that are read, and lines that are bad.
use mathlib.Core.Path.{◌≡◌, refl}
use mathlib.Core.List.{◌∷◌, []}
use Rattle.std.specs.Prelude.{None, Some}
use lib.IntN.{pos, negsuc}
use Rattle.decimal.specs.Read.{given, is_digit, read_on, plain, read_number, at_most, read_unsigned, plus, minus, read_signed_by, read_signed}
use Rattle.rules.specs.Entry.{set_end}
use Rattle.fields.specs.Fields.{lengthen, fields_of, field_at, only, up_to, byte, word, long, number}
use Rattle.call_line.specs.declared.line.Line.TheVariants as L
use Rattle.call_line.specs.Line.{◌⊛◌, optional, guid_of, guid, number_if, sized, counted_line, sample_line, end_line, gap_line, release_line, line_by, line_of}

-- `E 1 2 1 3 1 7 - -2 10`
reads_end : line_of (69 ∷ 32 ∷ 49 ∷ 32 ∷ 50 ∷ 32 ∷ 49 ∷ 32 ∷ 51 ∷ 32 ∷ 49 ∷ 32 ∷ 55 ∷ 32 ∷ 45 ∷ 32 ∷ 45 ∷ 50 ∷ 32 ∷ 49 ∷ 48 ∷ [])
    ≡ Some (L.Offer (record { group = guid_of 1; writer = guid_of 2; reader = 1; number = pos 3; set = Some (pos 1); digest = 7; what = set_end None (Some (negsuc 1)); time = 10 }))
unfolding line_of line_by only field_at fields_of lengthen end_line sized guid byte word long number number_if optional up_to ◌⊛◌ read_unsigned read_signed read_signed_by read_number plain read_on is_digit given at_most plus minus
reads_end = refl

-- `G 255 0 8 -0`
reads_gap : line_of (71 ∷ 32 ∷ 50 ∷ 53 ∷ 53 ∷ 32 ∷ 48 ∷ 32 ∷ 56 ∷ 32 ∷ 45 ∷ 48 ∷ [])
    ≡ Some (L.Gap (record { group = guid_of 255; writer = guid_of 0; reader = 8; number = pos 0 }))
unfolding line_of line_by only field_at fields_of lengthen gap_line sized guid byte number up_to ◌⊛◌ read_unsigned read_signed read_signed_by read_number plain read_on is_digit given at_most plus minus
reads_gap = refl

-- `V 1 256 0`, `V 1  0`, `S 1 1 0 1 1 - 50 0`
refuses_guid : line_of (86 ∷ 32 ∷ 49 ∷ 32 ∷ 50 ∷ 53 ∷ 54 ∷ 32 ∷ 48 ∷ []) ≡ None
unfolding line_of line_by only field_at fields_of lengthen counted_line sized guid byte up_to ◌⊛◌ read_unsigned read_number plain read_on is_digit given at_most
refuses_guid = refl

refuses_empty_field : line_of (86 ∷ 32 ∷ 49 ∷ 32 ∷ 32 ∷ 48 ∷ []) ≡ None
unfolding line_of line_by only field_at fields_of lengthen counted_line sized guid byte up_to ◌⊛◌ read_unsigned read_number plain read_on is_digit given at_most
refuses_empty_field = refl

refuses_absent_digest : line_of (83 ∷ 32 ∷ 49 ∷ 32 ∷ 49 ∷ 32 ∷ 48 ∷ 32 ∷ 49 ∷ 32 ∷ 49 ∷ 32 ∷ 45 ∷ 32 ∷ 53 ∷ 48 ∷ 32 ∷ 48 ∷ []) ≡ None
unfolding line_of line_by only field_at fields_of lengthen sample_line sized guid byte word long number number_if optional up_to ◌⊛◌ read_unsigned read_signed read_signed_by read_number plain read_on is_digit given at_most plus minus
refuses_absent_digest = refl

-- `R 10`, `R 10 `, an empty line
reads_release : line_of (82 ∷ 32 ∷ 49 ∷ 48 ∷ []) ≡ Some (L.Release 10)
unfolding line_of line_by only field_at fields_of lengthen release_line sized long ◌⊛◌ read_unsigned read_number plain read_on is_digit given at_most
reads_release = refl

refuses_space_behind : line_of (82 ∷ 32 ∷ 49 ∷ 48 ∷ 32 ∷ []) ≡ None
unfolding line_of line_by only field_at fields_of lengthen release_line sized
refuses_space_behind = refl

refuses_nothing : line_of [] ≡ None
unfolding line_of line_by only field_at fields_of
refuses_nothing = refl
