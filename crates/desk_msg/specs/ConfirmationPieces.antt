-- The text of a confirmation by what its fields say, piece by piece. Only proofs and private contracts speak of it.
use Rattle.std.specs.Prelude.{ℕ, List, ◌++◌, All, codes}
use Rattle.desk_codes.specs.Characters.{IsCodeChar}
use Rattle.desk_codes.specs.Reference.{IsReference}
use Rattle.desk_codes.specs.Account.{IsAccount}
use Rattle.desk_codes.specs.CheckDigit.{IsIsin}
use Rattle.desk_codes.specs.Bic.{IsBic}
use Rattle.desk_msg.specs.declared.instruction.Instruction.{Instruction}
use Rattle.desk_msg.specs.declared.writing.confirmation.Values.{Values}
use Rattle.desk_msg.specs.declared.writing.confirmation.PaidLines.{PaidLines}

-- the lines of the amount
abbrev pub paid_text : PaidLines → List ℕ
paid_text p = p.front.now ++ (p.currency.now ++ (p.amount.now ++ p.end.now))

-- what stands behind the account, with the lines of the amount and what stands behind these
abbrev pub settled_with : (settlement counterparty_begins counterparty paid : List ℕ) → List ℕ
settled_with settlement counterparty_begins counterparty paid =
    codes "\r\n:16S:FIAC\r\n:16R:SETDET\r\n:22F::SETR//" ++ (settlement ++ (codes "\r\n:16R:SETPRTY\r\n:95P:" ++ (counterparty_begins ++ (counterparty
    ++ (codes "\r\n:16S:SETPRTY\r\n:16R:SETPRTY\r\n:95P::PSET//DESKDEFF\r\n:16S:SETPRTY\r\n" ++ paid)))))

-- what stands behind the own reference as far as the account, with the text behind that
abbrev pub traded_with : (related day security quantity_begins quantity account rest : List ℕ) → List ℕ
traded_with related day security quantity_begins quantity account rest =
    codes "\r\n:23G:NEWM\r\n:16R:LINK\r\n:20C::RELA//" ++ (related ++ (codes "\r\n:16S:LINK\r\n:16S:GENL\r\n:16R:TRADDET\r\n:98A::ESET//" ++ (day
    ++ (codes "\r\n:35B:ISIN " ++ (security ++ (codes "\r\n:16S:TRADDET\r\n:16R:FIAC\r\n:36B:" ++ (quantity_begins ++ (quantity ++ (codes "\r\n:97A::SAFE//" ++ (account ++ rest))))))))))

-- the whole text, with the lines of the amount
abbrev pub text_with : Values → PaidLines → List ℕ
text_with v p =
    codes "{4:\r\n:16R:GENL\r\n:20C:" ++ (v.own.now ++ traded_with v.related.now v.day.now v.security.now v.quantity_begins.now v.quantity.now v.account.now (settled_with v.settlement.now v.counterparty_begins.now v.counterparty.now
    (p.front.now ++ (p.currency.now ++ (p.amount.now ++ (p.end.now ++ codes ":16S:SETDET\r\n-}"))))))

-- the texts of an instruction are codes
pub record AreCodes (i : Instruction) : Type 0 where
  pub reference : IsReference i.reference
  pub isin : IsIsin i.isin
  pub account : IsAccount i.account
  pub settlement : All IsCodeChar i.settlement
  pub counterparty : IsBic i.counterparty
