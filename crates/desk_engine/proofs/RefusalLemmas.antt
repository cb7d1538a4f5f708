-- What the answers of a register say of each check of an entry.
use Rattle.std.proofs.Common.{◌≡◌, ℕ, ◌+◌, ◌-◌, ◌<◌, ◌≤◌, nat_lt, Bool, true, false, not, List, [], ◌∷◌, Option, Some, None, is_none, refl, ap, sym, ◌∙◌, arith}
use Rattle.std.specs.Prelude.{bytes_eq, is_some}
use Rattle.std.proofs.lemmas.Bool.{le-ltb, lt-ltb}
use Rattle.desk_msg.specs.Depository.{desk_bic}
use Rattle.desk_msg.specs.declared.instruction.Instruction.{Instruction}
use Rattle.desk_msg.specs.declared.instruction.Kind.{Kind}
use Rattle.desk_rules.specs.declared.answers.verdict.Refusal.TheVariants.{AccountNotSenders, AccountUnknown, CounterpartyUnknown, Exists, KindDiffers, NotEnough, OverLimit, ParticipantUnknown, PlaceNotUs, SecurityUnknown, UnknownSecurity}
use Rattle.desk_rules.specs.declared.history.entry.Entry.TheVariants.{Instruct, Issue, Redeem}
use Rattle.desk_rules.specs.declared.history.entry.Movement.{Movement}
use Rattle.desk_rules.specs.declared.limits.TheConstants.{MOST_QUANTITY}
use Rattle.desk_rules.specs.Balances.{issued, redeemed}
use Rattle.desk_rules.specs.Content.{Content, history_of}
use Rattle.desk_rules.specs.Facts.{is_of_kind, is_owner, is_participant, kind_of, owner_of}
use Rattle.desk_rules.specs.Verdict.{check}
use Rattle.desk_register.specs.Checked.{checks_in, first_refusal}

-- whether there is an answer
there_is_none : {X : Type 0} (o : Option X) → is_some o ≡ false → is_none o ≡ true
there_is_none None is = refl
there_is_none (Some x) is = absurd (cc)

there_is_one : {X : Type 0} (o : Option X) → is_some o ≡ true → is_none o ≡ false
there_is_one None is = absurd (cc)
there_is_one (Some x) is = refl

module _ (content : Content) (isin : List ℕ) (kind : Option Kind) (is : kind ≡ kind_of (history_of content) isin) where
  pub security_known : is_some kind ≡ true → Some Exists ≡ first_refusal (check (is_some (kind_of (history_of content) isin)) Exists ∷ [])
  security_known there = (let known : is_some (kind_of (history_of content) isin) ≡ true = ap (λ (k : Option Kind). is_some k) (sym is) ∙ there in rw known refl)

  pub security_new : is_some kind ≡ false → None ≡ first_refusal (check (is_some (kind_of (history_of content) isin)) Exists ∷ [])
  security_new not_there = (let new : is_some (kind_of (history_of content) isin) ≡ false = ap (λ (k : Option Kind). is_some k) (sym is) ∙ not_there in rw new refl)

-- an account is new, and its owner known
module _ (content : Content) (bic account : List ℕ) (owner : Option (List ℕ)) (owned : owner ≡ owner_of (history_of content) account) where
  given : (b : Bool) → is_some owner ≡ b → is_some (owner_of (history_of content) account) ≡ b
  given b is = ap (λ (o : Option (List ℕ)). is_some o) (sym owned) ∙ is

  pub account_known : is_some owner ≡ true
      → Some Exists ≡ first_refusal (check (is_some (owner_of (history_of content) account)) Exists ∷ check (not (is_participant (history_of content) bic)) ParticipantUnknown ∷ [])
  account_known there = (let known = given true there in rw known refl)

  module _ (new : is_some owner ≡ false) (later : Content) (member : Bool) (same : later ≡ content) (joined : member ≡ is_participant (history_of later) bic) where
    joins : (b : Bool) → member ≡ b → is_participant (history_of content) bic ≡ b
    joins b is = sym (joined ∙ ap (λ (z : Content). is_participant (history_of z) bic) same) ∙ is

    pub account_passes : member ≡ true
        → None ≡ first_refusal (check (is_some (owner_of (history_of content) account)) Exists ∷ check (not (is_participant (history_of content) bic)) ParticipantUnknown ∷ [])
    account_passes is = rw (given false new, joins true is) refl

    pub account_stranger : member ≡ false
        → Some ParticipantUnknown ≡ first_refusal (check (is_some (owner_of (history_of content) account)) Exists ∷ check (not (is_participant (history_of content) bic)) ParticipantUnknown ∷ [])
    account_stranger is = rw (given false new, joins false is) refl

-- what is moved: first its account is asked for, then its security, then how much there is
module _ (content : Content) (movement : Movement) (owner : Option (List ℕ)) (owned : owner ≡ owner_of (history_of content) movement.account) where
  account_none : is_some owner ≡ false → is_none (owner_of (history_of content) movement.account) ≡ true
  account_none not_there = ap (λ (o : Option (List ℕ)). is_none o) (sym owned) ∙ there_is_none owner not_there

  pub issue_no_account : is_some owner ≡ false → Some AccountUnknown ≡ first_refusal (checks_in content (Issue movement))
  issue_no_account not_there = (let none = account_none not_there in rw none refl)

  pub redeem_no_account : is_some owner ≡ false → Some AccountUnknown ≡ first_refusal (checks_in content (Redeem movement))
  redeem_no_account not_there = (let none = account_none not_there in rw none refl)

  module _ (later : Content) (kind : Option Kind) (same : later ≡ content) (account : is_some owner ≡ true) (is_kind : kind ≡ kind_of (history_of later) movement.isin) where
    account_there : is_none (owner_of (history_of content) movement.account) ≡ false
    account_there = ap (λ (o : Option (List ℕ)). is_none o) (sym owned) ∙ there_is_one owner account

    kind_here : kind ≡ kind_of (history_of content) movement.isin
    kind_here = is_kind ∙ ap (λ (z : Content). kind_of (history_of z) movement.isin) same

    security_none : is_some kind ≡ false → is_none (kind_of (history_of content) movement.isin) ≡ true
    security_none not_there = ap (λ (k : Option Kind). is_none k) (sym kind_here) ∙ there_is_none kind not_there

    pub issue_no_security : is_some kind ≡ false → Some SecurityUnknown ≡ first_refusal (checks_in content (Issue movement))
    issue_no_security not_there = (let there = account_there in let none = security_none not_there in rw (there, none) refl)

    pub redeem_no_security : is_some kind ≡ false → Some SecurityUnknown ≡ first_refusal (checks_in content (Redeem movement))
    redeem_no_security not_there = (let there = account_there in let none = security_none not_there in rw (there, none) refl)

    module _ (last : Content) (so_much : ℕ) (same_last : last ≡ content) (security : is_some kind ≡ true) where
      security_there : is_none (kind_of (history_of content) movement.isin) ≡ false
      security_there = ap (λ (k : Option Kind). is_none k) (sym kind_here) ∙ there_is_one kind security

      module _ (counted : redeemed (history_of last) movement.isin + so_much ≡ issued (history_of last) movement.isin) where
        counted_here : redeemed (history_of content) movement.isin + so_much ≡ issued (history_of content) movement.isin
        counted_here = rw same_last at counted

        pub issue_over : movement.quantity ≤ MOST_QUANTITY → MOST_QUANTITY - movement.quantity < so_much → Some OverLimit ≡ first_refusal (checks_in content (Issue movement))
        issue_over within over =
            let sum = counted_here in
            let test : nat_lt (redeemed (history_of content) movement.isin + MOST_QUANTITY) (issued (history_of content) movement.isin + movement.quantity) ≡ true = lt-ltb _ _ (omega arith) in
            rw (account_there, security_there, test) refl

        pub issue_passes : movement.quantity ≤ MOST_QUANTITY → so_much ≤ MOST_QUANTITY - movement.quantity → None ≡ first_refusal (checks_in content (Issue movement))
        issue_passes within room =
            let sum = counted_here in
            let test : nat_lt (redeemed (history_of content) movement.isin + MOST_QUANTITY) (issued (history_of content) movement.isin + movement.quantity) ≡ false = le-ltb _ _ (omega arith) in
            rw (account_there, security_there, test) refl

      module _ (position : so_much ≡ last.position movement.account movement.isin) where
        position_here : so_much ≡ content.position movement.account movement.isin
        position_here = position ∙ ap (λ (z : Content). z.position movement.account movement.isin) same_last

        pub redeem_too_much : so_much < movement.quantity → Some NotEnough ≡ first_refusal (checks_in content (Redeem movement))
        redeem_too_much less =
            let test : nat_lt (content.position movement.account movement.isin) movement.quantity ≡ true = (let is = position_here in lt-ltb _ _ (omega arith)) in
            rw (account_there, security_there, test) refl

        pub redeem_passes : movement.quantity ≤ so_much → None ≡ first_refusal (checks_in content (Redeem movement))
        redeem_passes enough =
            let test : nat_lt (content.position movement.account movement.isin) movement.quantity ≡ false = (let is = position_here in le-ltb _ _ (omega arith)) in
            rw (account_there, security_there, test) refl

-- what is asked of an instruction, in order: its place, its security, how that is counted, its account, its counterparty
module _ (content : Content) (sender : List ℕ) (i : Instruction) where
  pub instruct_elsewhere : bytes_eq i.place desk_bic ≡ false → Some PlaceNotUs ≡ first_refusal (checks_in content (Instruct sender i))
  instruct_elsewhere elsewhere = rw elsewhere refl

  module _ (here : bytes_eq i.place desk_bic ≡ true) (kind : Option Kind) (is_kind : kind ≡ kind_of (history_of content) i.isin) where
    pub instruct_no_security : is_some kind ≡ false → Some UnknownSecurity ≡ first_refusal (checks_in content (Instruct sender i))
    instruct_no_security not_there =
        let none : is_none (kind_of (history_of content) i.isin) ≡ true = ap (λ (k : Option Kind). is_none k) (sym is_kind) ∙ there_is_none kind not_there in
        rw (here, none) refl

    module _ (security : is_some kind ≡ true) where
      known_security : is_none (kind_of (history_of content) i.isin) ≡ false
      known_security = ap (λ (k : Option Kind). is_none k) (sym is_kind) ∙ there_is_one kind security

      counted : (b : Bool) → is_of_kind i.kind kind ≡ b → is_of_kind i.kind (kind_of (history_of content) i.isin) ≡ b
      counted b is = ap (λ (k : Option Kind). is_of_kind i.kind k) (sym is_kind) ∙ is

      pub instruct_other_kind : is_of_kind i.kind kind ≡ false → Some KindDiffers ≡ first_refusal (checks_in content (Instruct sender i))
      instruct_other_kind other = rw (here, known_security, counted false other) refl

      module _ (same_kind : is_of_kind i.kind kind ≡ true) (later : Content) (owner : Option (List ℕ)) (same : later ≡ content) (owned : owner ≡ owner_of (history_of later) i.account) where
        ours : (b : Bool) → is_owner sender owner ≡ b → is_owner sender (owner_of (history_of content) i.account) ≡ b
        ours b is = sym (ap (is_owner sender) (owned ∙ ap (λ (z : Content). owner_of (history_of z) i.account) same)) ∙ is

        pub instruct_not_owner : is_owner sender owner ≡ false → Some AccountNotSenders ≡ first_refusal (checks_in content (Instruct sender i))
        instruct_not_owner other = rw (here, known_security, counted true same_kind, ours false other) refl

        module _ (owns : is_owner sender owner ≡ true) (last : Content) (member : Bool) (same_last : last ≡ content) (joined : member ≡ is_participant (history_of last) i.counterparty) where
          known_party : (b : Bool) → member ≡ b → is_participant (history_of content) i.counterparty ≡ b
          known_party b is = sym (joined ∙ ap (λ (z : Content). is_participant (history_of z) i.counterparty) same_last) ∙ is

          pub instruct_no_party : member ≡ false → Some CounterpartyUnknown ≡ first_refusal (checks_in content (Instruct sender i))
          instruct_no_party stranger = rw (here, known_security, counted true same_kind, ours true owns, known_party false stranger) refl

          pub instruct_passes : member ≡ true → None ≡ first_refusal (checks_in content (Instruct sender i))
          instruct_passes knows = rw (here, known_security, counted true same_kind, ours true owns, known_party true knows) refl
