-- The words that name the used fields in a refusal.
use Rattle.std.specs.Prelude.{ℕ, List, codes}
use Rattle.desk_msg.specs.declared.fault.Word.{Word}
use Rattle.desk_msg.specs.declared.fault.Word.TheVariants.{Field23G, Seme, Prev, Date, Field35B, Field36B, Safe, Setr, Pset, Deag, Reag, Field19A, Rela, Eset}

abbrev pub letters_of_word : Word → List ℕ
letters_of_word Field23G = codes "23G"
letters_of_word Seme = codes "SEME"
letters_of_word Prev = codes "PREV"
letters_of_word Date = codes "DATE"
letters_of_word Field35B = codes "35B"
letters_of_word Field36B = codes "36B"
letters_of_word Safe = codes "SAFE"
letters_of_word Setr = codes "SETR"
letters_of_word Pset = codes "PSET"
letters_of_word Deag = codes "DEAG"
letters_of_word Reag = codes "REAG"
letters_of_word Field19A = codes "19A"
letters_of_word Rela = codes "RELA"
letters_of_word Eset = codes "ESET"
