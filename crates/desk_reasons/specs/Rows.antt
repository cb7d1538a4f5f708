-- The rows of the profile by the words that name them.
use Rattle.std.specs.Prelude.{ℕ, List, []}
use Rattle.desk_msg.specs.declared.fault.Word.{Word}
use Rattle.desk_msg.specs.declared.fault.Word.TheVariants.{Field23G, Seme, Prev, Date, Field35B, Field36B, Safe, Setr, Pset, Deag, Reag, Field19A, Rela, Eset}
use Rattle.desk_msg.specs.Profile.{Row, function_row, seme_row, prev_row, date_row, security_row, quantity_row, safe_row, setr_row, pset_row, deag_row, reag_row, amount_row, slashed}
use Rattle.desk_msg.specs.Confirms.{rela_row, eset_row}

abbrev pub row_of : Word → Row
row_of Field23G = function_row
row_of Seme = seme_row
row_of Prev = prev_row
row_of Date = date_row
row_of Field35B = security_row
row_of Field36B = quantity_row
row_of Safe = safe_row
row_of Setr = setr_row
row_of Pset = pset_row
row_of Deag = deag_row
row_of Reag = reag_row
row_of Field19A = amount_row
row_of Rela = rela_row
row_of Eset = eset_row

-- what stands before the text that is read: the beginning of the row's values, and a slash; of the type of settlement no slash, since an issuer code may stand there
abbrev pub before_text : Word → List ℕ
before_text Field23G = []
before_text Field35B = []
before_text Setr = (row_of Setr).begins
before_text word = slashed (row_of word).begins
