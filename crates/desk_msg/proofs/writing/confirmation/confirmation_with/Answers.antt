use Rattle.std.proofs.Common.{◌≡◌, ◌∙◌, subst, List, ℕ, codes, arith, IfOk, Ok}
use Rattle.desk_text.specs.Fields.{Found, IsBlock}
use Rattle.desk_msg.specs.ConfirmationText.{confirmation, confirming_type}
use Rattle.desk_msg.specs.ConfirmationPieces.{paid_text}
use Rattle.desk_msg.specs.Confirms.{Confirms, confirmed_of}
use Rattle.desk_msg.proofs.ConfirmationLaws.{AreReadBack, are_printed, short_number, cash_back, bic_text, said_back}
use Rattle.desk_msg.proofs.WrittenConfirmations.{ArePieces, four_then, pieces_are}
use Rattle.desk_msg.proofs.StatusLemmas.{ok_then}
use Rattle.desk_msg.proofs.writing.confirmation.confirmation_with.Goals as goal

pub returns : goal.returns
returns c =
    let i = c.args.instruction.now in
    let v = c.values_of-values.ensures in
    let w = c.values_of-values.result in
    let p = c.args.paid.now in
    let back : AreReadBack i c.args.day = record {
      reference = v.codes.reference;
      is_day = c.write-digits.ensures.day;
      isin = v.codes.isin;
      quantity = short_number i.quantity 0 c.number_text.ensures.fits (omega arith) i.some i.short;
      account = v.codes.account;
      settlement = v.codes.settlement;
      counterparty = bic_text i.counterparty v.codes.counterparty;
      cash = cash_back i.cash c.requires.fits;
    } in
    let pieces : ArePieces c.args.n i c.args.day w.own.now w.related.now w.day.now w.security.now w.quantity_begins.now w.quantity.now w.account.now w.settlement.now w.counterparty_begins.now w.counterparty.now (paid_text p) = record {
      own_is = v.own ∙ c.own_value-own.ensures;
      related_is = v.related;
      day_is = v.day ∙ c.write-digits.ensures.digits;
      security_is = v.security;
      kind_is = v.kind;
      quantity_is = v.quantity ∙ c.deref.ensures.value ∙ c.in_ok-quantity.ensures.value;
      account_is = v.account;
      settlement_is = v.settlement;
      side_is = v.side;
      counterparty_is = v.counterparty;
      paid_is = c.requires.paid;
    } in
    let is = pieces_are c.args.n i c.args.day _ _ _ _ _ _ _ _ _ _ (paid_text c.args.paid.now) (are_printed i c.args.day back) pieces in
    let P : List ℕ → Type 0 = λ z. IfOk c.write_confirmation.result (λ text. text.items ≡ z) in
    let Q : List ℕ → Type 0 = λ text. (said : List Found) × IsBlock text said × Confirms (confirming_type i.mt) said (Ok (confirmed_of i c.args.day)) in
    let text = subst P is (rw (four_then p.front.now p.currency.now p.amount.now p.end.now (codes ":16S:SETDET\r\n-}")) at c.write_confirmation.ensures) in
    record { text = text; said = ok_then (λ t. t.items) c.write_confirmation.result (confirmation c.args.n i c.args.day) Q text (said_back c.args.n i c.args.day back) }
