-- The types of settlement messages (ISO 15022, category 5).
use Rattle.std.specs.Prelude.{ℕ, Bool, true, false, List, codes}
use Rattle.desk_msg.specs.declared.mt.Mt.{Mt}
use Rattle.desk_msg.specs.declared.mt.Mt.TheVariants.{Mt540, Mt541, Mt542, Mt543, Mt544, Mt545, Mt546, Mt547}

abbrev pub number_of_type : Mt → ℕ
number_of_type Mt540 = 540
number_of_type Mt541 = 541
number_of_type Mt542 = 542
number_of_type Mt543 = 543
number_of_type Mt544 = 544
number_of_type Mt545 = 545
number_of_type Mt546 = 546
number_of_type Mt547 = 547

-- its three digits
abbrev pub digits_of_type : Mt → List ℕ
digits_of_type Mt540 = codes "540"
digits_of_type Mt541 = codes "541"
digits_of_type Mt542 = codes "542"
digits_of_type Mt543 = codes "543"
digits_of_type Mt544 = codes "544"
digits_of_type Mt545 = codes "545"
digits_of_type Mt546 = codes "546"
digits_of_type Mt547 = codes "547"

-- a participant sends it to instruct the desk
abbrev pub is_instruction : Mt → Bool
is_instruction Mt540 = true
is_instruction Mt541 = true
is_instruction Mt542 = true
is_instruction Mt543 = true
is_instruction mt = false

-- cash moves with the securities
abbrev pub is_against_payment : Mt → Bool
is_against_payment Mt541 = true
is_against_payment Mt543 = true
is_against_payment Mt545 = true
is_against_payment Mt547 = true
is_against_payment mt = false

-- its sender, or the one it is sent to, delivers the securities
abbrev pub is_delivery : Mt → Bool
is_delivery Mt542 = true
is_delivery Mt543 = true
is_delivery Mt546 = true
is_delivery Mt547 = true
is_delivery mt = false
