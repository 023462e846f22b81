-- A field of one byte, and one that is a dash.
use Rattle.std.proofs.Common.{◌≡◌, ◌∙◌, ◌<◌, ◌≤◌, ◌-◌, ◌||◌, ◌&&◌, ℕ, suc, Bool, true, false, cond, List, [], ◌∷◌, get_or, length, take, drop, eqb, refl, sym, ap, ne_eqb, arith, length-drop}
use lib.Seq.{take_all}
use Rattle.std.specs.Prelude.{Option, Some, None}
use Rattle.fields.specs.declared.line.Fields.{Fields}
use Rattle.fields.specs.Fields.{only}
use Rattle.fields.specs.Front.{ends, field_in}
use Rattle.fields.specs.Left.{left, sole, is_dash, PartRead}
use Rattle.fields.proofs.Left.{first_is, none_left, some_left}

pub sole_one : (f : List ℕ) → length f ≡ 1 → Some (get_or f 0 0) ≡ sole f
unfolding sole
sole_one [] e = absurd (omega arith)
sole_one (b ∷ []) e = refl
sole_one (b ∷ c ∷ f) e = absurd (omega arith)

pub sole_other : (f : List ℕ) → (length f ≡ 1 → ⊥) → None ≡ sole f
unfolding sole
sole_other [] e = refl
sole_other (b ∷ []) e = absurd (e refl)
sole_other (b ∷ c ∷ f) e = refl

-- only a field of one byte has an only byte
only_head : (f : List ℕ) → only f ≡ 45 → (0 < length f) × (get_or f 0 0 ≡ 45)
unfolding only
only_head [] e = absurd (omega (arith, e))
only_head (b ∷ []) e = (omega arith, e)
only_head (b ∷ c ∷ f) e = absurd (omega (arith, e))

field_head : (nl : Bool) (s : List ℕ) → 0 < length (field_in nl s) → get_or (field_in nl s) 0 0 ≡ get_or s 0 0
unfolding field_in
field_head nl [] h = refl
field_head nl (b ∷ s) h =
    (elim (eqb b 32 || ends nl b) as (λ t. 0 < length (cond t [] (b ∷ field_in nl s)) → get_or (cond t [] (b ∷ field_in nl s)) 0 0 ≡ b) [
      | true ↦ λ g. absurd (omega arith)
      | false ↦ λ g. refl
    ]) h

-- a field that begins with another byte
pub no_dash : (f : Fields) → (get_or f.rest.now 0 0 ≡ 45 → ⊥) → false ≡ is_dash (left f)
unfolding is_dash
no_dash f z =
    (elim f.more as (λ t. f.more ≡ t → false ≡ is_dash (left f)) [
      | true ↦ λ m.
          rw (some_left f m)
          (sym (ne_eqb (only (field_in f.newlines f.rest.now)) 45 (λ e.
          let h = only_head (field_in f.newlines f.rest.now) e in z (sym (field_head f.newlines f.rest.now h.0) ∙ h.1))))
      | false ↦ λ m. rw (none_left f m)
    ]) refl

pub none_dash : (f : Fields) → f.more ≡ false → false ≡ is_dash (left f)
unfolding is_dash
none_dash f m = rw (none_left f m)

-- ---- one that begins with a dash, 45

dash_front : (nl : Bool) (s : List ℕ) → field_in nl (45 ∷ s) ≡ 45 ∷ field_in nl s
unfolding field_in ends
dash_front true s = refl
dash_front false s = refl

module _ (f : Fields) (m : f.more ≡ true) (e : get_or f.rest.now 0 0 ≡ 45) where
  abbrev pub behind_dash : List ℕ
  behind_dash = take (length f.rest.now - 1) (drop 1 f.rest.now)

  dash_field : field_in f.newlines f.rest.now ≡ 45 ∷ field_in f.newlines behind_dash
  dash_field = ap (λ s. field_in f.newlines s) (first_is 45 f.rest.now (omega arith) e) ∙ dash_front f.newlines behind_dash

  dash_only : (s : List ℕ) → eqb (only (45 ∷ s)) 45 ≡ eqb (length s) 0
  unfolding only
  dash_only [] = refl
  dash_only (c ∷ s) = sym (ne_eqb (suc (length s)) 0 (λ e. omega (arith, e)))

  -- it is one where nothing of the field is left behind it
  pub dash_is : is_dash (left f) ≡ eqb (length (field_in f.newlines behind_dash)) 0
  unfolding is_dash
  dash_is = rw (some_left f m, dash_field) (dash_only (field_in f.newlines behind_dash))

  pub dash_read : PartRead f behind_dash
  dash_read = record {
    more = m;
    len = 1;
    within = omega (arith, ap length dash_field);
    is = take_all (length f.rest.now - 1) (drop 1 f.rest.now) (omega (arith, length-drop 1 f.rest.now));
  }
