use Rattle.desk_codes.specs.Number.{number_of}
use Rattle.std.proofs.Common.{◌≡◌, ◌∙◌, refl, ap, arith, sym}
use Rattle.desk_register.specs.View.{fallen}
use Rattle.desk_register.specs.declared.register.Fault.TheVariants.{Memory}
use Rattle.desk_register.specs.declared.register.Stage.TheVariants.{Begun, Idle}
use Rattle.desk_register.proofs.ViewLemmas.{begun_goes, blames_memory, change_ok}
use Rattle.memory_rows.specs.Lists.{content_in}
use Rattle.memory_rows.proofs.rows.Rows.try_pair.Goals as goal

pub try_settle-requires-clause-fits : goal.try_settle-requires-clause-fits
try_settle-requires-clause-fits c = (number_of c.args._day, c.requires.fits)

pub try_settle-requires-clause-sound : goal.try_settle-requires-clause-sound
try_settle-requires-clause-sound c = c.args.self.now.sound (begun_goes c.args.self.now.stage c.requires.stage)

pub returns-in-Ok-clause-change : goal.returns-in-Ok-clause-change
returns-in-Ok-clause-change c = change_ok c.in-Ok.tried _ _ (record { stage = refl; sure = λ h s. tt; mark = λ h s. ap content_in c.in-Ok.ensures.before; device = λ h s. s }) (record { honest = λ h. h; sure = λ h s. s; room = refl; device_honest = λ h. h; failures = omega arith })

pub returns-in-Err-clause-change : goal.returns-in-Err-clause-change
returns-in-Err-clause-change c = record {
  ok = tt;
  err = record {
    stage = sym (ap fallen c.requires.stage);
    mark = λ h s. ap content_in c.in-Err.ensures.before;
    content = λ h s idle. (let clash : Begun ≡ Idle = sym c.requires.stage ∙ idle in absurd (cc));
  };
  later = record { honest = λ h. h; sure = λ h s. s; room = refl; device_honest = λ h. h; failures = omega arith };
  blame = blames_memory Memory _ _ refl;
}
