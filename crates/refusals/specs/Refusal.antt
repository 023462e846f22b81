-- The number of each refusal in documents 01 and 02, and what a call's result answers.
use Rattle.std.specs.Prelude.{ℕ, Result, Ok, Err}
use Rattle.laws.specs.Answer.{Answer, refused, answered}
use Rattle.refusals.specs.declared.Refusal.{Refusal}
use Rattle.refusals.specs.declared.Refusal.TheVariants as R

abbrev pub number_of : Refusal → ℕ
number_of R.ReaderAboveSeven = 1
number_of R.NinthGroup = 2
number_of R.PairOver32 = 3
number_of R.EntriesFull = 4
number_of R.ListTooShort = 5
number_of R.PreconditionNotMet = 6
number_of R.MembersFull = 7
number_of R.InstancesFull = 8
number_of R.MalformedView = 9
number_of R.BadSeparation = 10
number_of R.NotEightBytes = 11
number_of R.BadLength = 15
number_of R.NotStored = 15
number_of R.TooWide = 15
number_of R.BadVersion = 16

abbrev pub answer_as : {X : Type 0} → Result X Refusal → Answer X
answer_as (Ok x) = answered x
answer_as (Err e) = refused (number_of e)
