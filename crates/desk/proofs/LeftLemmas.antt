-- What a run leaves of a desk.
use Rattle.std.proofs.Common.{◌≡◌, ℕ, Bool, false, [], IsTrue, Option, refl, sym, ap, ◌∙◌, subst, arith}
use Rattle.std.specs.Prelude.{is_some, Result, Ok, Err, IfErr, IfOk}
use Rattle.sqlite.specs.Files.{file_state, IsClosed}
use Rattle.sqlite.specs.Held.{Held}
use Rattle.sqlite.specs.State.{State, HasCleanDisk, IsLive}
use Rattle.sqlite_disk.specs.declared.Disk.{Ghosts}
use Rattle.sqlite_disk.specs.declared.Files.{Files}
use Rattle.sqlite_store.specs.declared.store.FileStore.{FileStore}
use Rattle.desk_rules.specs.Books.{Books}
use Rattle.desk_rules.specs.Content.{Content}
use Rattle.desk_rules.specs.declared.limits.TheConstants.{MOST_ENTRIES}
use Rattle.desk_register.specs.View.{View, fallen, IsLater, IsRead}
use Rattle.desk_register.specs.declared.register.Fault.{Fault}
use Rattle.desk_register.specs.declared.register.Stage.{Stage}
use Rattle.desk_register.specs.declared.register.Stage.TheVariants.{Idle}
use Rattle.sql_register.specs.Content.{content_in}
use Rattle.sql_register.specs.Kept.{IsKept, Kept}
use Rattle.memory_register.specs.declared.list_register.ListRegister.{ListRegister}
use Rattle.desk_file.specs.Both.{Both}
use Rattle.desk_file.specs.Opened.{view_of_both}
use Rattle.desk_engine.specs.Ready.{IsReady, KeepsFormed}
use Rattle.desk.specs.Closed.{AreClosed}
use Rattle.desk.specs.Left.{AreLeft, AreSaid, IsCleanBehind, IsLeft, LeavesSome, PassesOn, TablesSay}
use Rattle.desk.specs.PlayAnswer.{KeptBy}

-- of a connection that was handed on the same is known
pub same_handed : {S : Type 0} (state : S → State) (given handed : S) (content : Content) → handed ≡ given → (HasCleanDisk (state given) → IsTrue (state given).is_open → content ≡ content_in (state given).now)
    → HasCleanDisk (state handed) → IsTrue (state handed).is_open → content ≡ content_in (state handed).now
same_handed {S} state given handed content is same =
    let Same : S → Type 0 = λ k. HasCleanDisk (state k) → IsTrue (state k).is_open → content ≡ content_in (state k).now in
    subst Same (sym is) same

-- tables with no `begin` open that say what books come to
pub tables_say : (s : State) (stage : Stage) (content : Content) (books : Books) → stage ≡ Idle → IsKept s stage → IsLive s → (HasCleanDisk s → IsTrue s.is_open → content ≡ content_in s.now) → KeepsFormed MOST_ENTRIES books content → TablesSay s books
tables_say s stage content books idle kept live same keeps = λ clean is_open.
    let desk = kept clean is_open in
    record { is = (live is_open).1; content = content; keeps = keeps; tables = record { desk = desk.committed; content_is = sym (same clean is_open ∙ ap content_in (desk.idle idle)) } }

-- what is left of a desk its tables say
pub said_left : {S C : Type 0} (state : S → State) (mark : Option C) (held : Both ListRegister (Kept S)) (s : State) → (view_of_both state held).room ≡ MOST_ENTRIES → IsReady (is_some mark) (view_of_both state held)
    → (held.stage ≡ Idle → (books : Books) → KeptBy (view_of_both state held) books → TablesSay s books) → PassesOn (IsLeft (is_some mark) (view_of_both state held)) (AreSaid mark s)
said_left {S} state mark held s most ready say = record {
  each = λ is_closed books left. record {
    closed = left.closed;
    says = λ stays. say (ready.stage (left.closed ∙ stays)) books (subst (λ k. KeepsFormed k books (view_of_both state held).content) most (left.holds stays));
  };
}

-- what the tables say of a connection that was closed its files say
pub files_say : {C D E : Type 0} {g : Ghosts D} (mark : Option C) (connection : Held (FileStore D g)) (r : Result (Files D) E) → IfOk r (AreClosed connection) → PassesOn (AreSaid mark (file_state connection)) (AreLeft g mark r)
files_say mark connection (Ok files) closed = record {
  each = λ is_closed books said. record {
    closed = said.closed;
    says = λ stays clean. (let copied = closed clean in
        record { db = (file_state connection).committed; says = said.says stays copied.was_clean copied.was_open; seen = copied.seen; left = copied.left });
  };
}
files_say mark connection (Err e) closed = record { each = λ is_closed books said. record { closed = said.closed; says = λ stays. tt } }

-- that no wrong answer of the device was taken as true up to the close, so up to what was before it
pub clean_before : {D : Type 0} {g : Ghosts D} (connection : Held (FileStore D g)) (r : Result (Files D) (FileStore D g)) → IfOk r (AreClosed connection) → IfErr r (IsClosed connection) → IsCleanBehind r → HasCleanDisk (file_state connection)
clean_before connection (Ok files) closed unclosed clean = (closed clean).was_clean
clean_before connection (Err it) closed unclosed clean = (let q = unclosed.quiet.clean in omega (arith, q, clean))

-- that the tables were trusted behind a call, so before it
pub clean_on : {S : Type 0} (state : S → State) (old new : Both ListRegister (Kept S)) (connection : S) → IsLater (view_of_both state old) (view_of_both state new) → connection ≡ new.tables.connection
    → HasCleanDisk (state connection) → HasCleanDisk (state old.tables.connection)
clean_on {S} state old new connection later is clean =
    let Clean : S → Type 0 = λ k. HasCleanDisk (state k) in
    let now = subst Clean is clean in
    (later.device_honest (now, now)).0

-- nothing was asked
pub none_asked : (limit : ℕ) (books : Books) (L : Bool → Books → Type 0) → L false books → LeavesSome limit books L
none_asked limit books L left = record { requests = []; answers = []; is_closed = false; last = books; in_turn = (refl, refl); left = left }

-- what is left of a desk is left of what stands in its place, where there is room for as many entries as a desk may have
pub some_left : (limit : ℕ) (books : Books) (L M : Bool → Books → Type 0) → limit ≡ MOST_ENTRIES → PassesOn L M → LeavesSome limit books L → LeavesSome MOST_ENTRIES books M
some_left limit books L M most on left =
    let moved : LeavesSome limit books M = record { requests = left.requests; answers = left.answers; is_closed = left.is_closed; last = left.last; in_turn = left.in_turn; left = on.each left.is_closed left.last left.left } in
    subst (λ k. LeavesSome k books M) most moved

-- several reading calls of a register with no `begin` open: none is open behind them, and it holds what it held
module _ {X : Type 0} (v0 v1 : View) where
  pub have_stage : (r : Result X Fault) → v0.stage ≡ Idle → IsRead r v0 v1 → v1.stage ≡ Idle
  have_stage (Ok x) idle read = read.ok.stage ∙ idle
  have_stage (Err fault) idle read = read.err.stage ∙ ap fallen idle

  pub have_same : (r : Result X Fault) → v0.stage ≡ Idle → IsRead r v0 v1 → v1.is_honest → v1.is_sure → v1.content ≡ v0.content
  have_same (Ok x) idle read honest sure = read.same honest (read.later.sure honest sure)
  have_same (Err fault) idle read honest sure = read.err.content honest sure idle
