-- The text of a statement of holdings piece by piece. Only proofs and private contracts speak of it.
use Rattle.std.specs.Prelude.{ℕ, List, ◌++◌, codes}
use Rattle.desk_msg.specs.declared.instruction.Kind.{Kind}
use Rattle.desk_msg.specs.Profile.{code_of_kind}
use Rattle.desk_msg.specs.declared.writing.holdings.RowPieces.{RowPieces}

abbrev pub pieces_text : RowPieces → List ℕ
pieces_text p = p.front.now ++ (p.security.now ++ (p.balance_begins.now ++ (p.quantity.now ++ p.end.now)))

-- a row, by what its fields say, with a text in front of its security
abbrev pub row_behind : (front security : List ℕ) → Kind → (quantity : List ℕ) → List ℕ
row_behind front security kind quantity = front ++ (security ++ ((codes "\r\n:93B::AGGR//" ++ (code_of_kind kind ++ codes "/")) ++ (quantity ++ codes "\r\n:16S:FIN\r\n")))

-- what is said of a statement as far as its account, and a text behind that
abbrev pub general_before : (own day account rest : List ℕ) → List ℕ
general_before own day account rest =
    codes "{4:\r\n:16R:GENL\r\n:28E:1/ONLY\r\n:20C:" ++ (own ++ (codes "\r\n:23G:NEWM\r\n:98A::STAT//" ++ (day
    ++ (codes "\r\n:22F::SFRE//ADHO\r\n:22F::CODE//COMP\r\n:22F::STTY//CUST\r\n:22F::STBA//SETT\r\n:97A::SAFE//" ++ (account ++ rest)))))
