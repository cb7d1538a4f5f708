-- How a request ends by which an entry was to be taken in.
use Rattle.std.proofs.Common.{◌≡◌, true, false, refl}
use Rattle.std.specs.Prelude.{Ok, Err}
use Rattle.desk_rules.specs.declared.answers.reply.Reply.{Reply}
use Rattle.desk_register.specs.declared.register.Fault.TheVariants as registers
use Rattle.desk_register.specs.View.{View, IsLater}
use Rattle.desk_engine.specs.declared.accepting.Failure.{Failure}
use Rattle.desk_engine.specs.declared.accepting.Failure.TheVariants.{Undone, Lost}
use Rattle.desk_engine.specs.Accepting.{BlamesStep, IsDone, IsLeft}
use Rattle.desk_engine.specs.Ready.{IsReady}
use Rattle.desk_book.specs.Answering.{Ends, fault_of_failure}

pub ends_put : (reply : Reply) (v0 v1 : View) → IsReady false v0 → IsDone v0 v1 → IsLater v0 v1 → Ends (Ok reply) v0 v1
ends_put reply v0 v1 ready done later = record {
  stage = λ still. done.stage;
  sure = λ still h. done.sure h (ready.sure refl (later.honest h));
  device = λ still h. done.device h (ready.device refl (later.device_honest h));
  same = λ still h. tt;
  later = later;
  blame = record { storage = λ is. absurd (cc) };
}

pub ends_failed : {X : Type 0} (failure : Failure) (v0 v1 : View) → IsReady false v0 → IsLeft failure v0.content v1 → IsLater v0 v1 → BlamesStep {X = X} (Err failure) v0 v1 → Ends (Err (fault_of_failure failure)) v0 v1
ends_failed (Undone registers.Memory) v0 v1 ready left later blame = record {
  stage = λ still. left.stage;
  sure = λ still. left.sure;
  device = λ still. left.device;
  same = λ still h. left.same h;
  later = later;
  blame = record { storage = λ is. absurd (cc) };
}
ends_failed (Undone registers.Storage) v0 v1 ready left later blame = record {
  stage = λ still. left.stage;
  sure = λ still. left.sure;
  device = λ still. left.device;
  same = λ still h. left.same h;
  later = later;
  blame = record { storage = λ is honest device few. blame.storage refl (ready.sure refl (later.honest honest)) (ready.device refl (later.device_honest device)) honest device few };
}
ends_failed Lost v0 v1 ready left later blame = record {
  stage = λ (still : true ≡ false). absurd (cc);
  sure = λ (still : true ≡ false) h. absurd (cc);
  device = λ (still : true ≡ false) h. absurd (cc);
  same = λ (still : true ≡ false) h. absurd (cc);
  later = later;
  blame = record { storage = λ is. absurd (cc) };
}
