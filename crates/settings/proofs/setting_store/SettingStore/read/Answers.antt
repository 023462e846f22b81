-- `SettingStore::read` meets its contract.
use Rattle.std.proofs.Common.{arith, ◌≡◌, refl, List, [], ◌∷◌, ℕ, zero, suc}
use Rattle.std.proofs.lemmas.Grind.{common_steps}
use Rattle.std.proofs.lemmas.Option.{gets}
use Rattle.std.specs.Prelude.{slice_get, ok_or}
use Rattle.refusals.specs.Refusal.{answer_as}
use Rattle.refusals.specs.declared.Refusal.TheVariants as R
use Rattle.settings.specs.Store.{read_at}
use Rattle.settings.specs.declared.setting.Setting.{Setting}
use Rattle.settings.proofs.setting_store.SettingStore.read.Goals as goal

read_got : (l : List Setting) (age : ℕ) → read_at age l ≡ answer_as (ok_or (slice_get l age) R.NotStored)
read_got [] age = refl
read_got (x ∷ l) zero = refl
read_got (x ∷ l) (suc age) = read_got l age

pub returns : goal.returns
returns c = grind (arith, common_steps, gets, read_got c.args.self.now c.args.age)
