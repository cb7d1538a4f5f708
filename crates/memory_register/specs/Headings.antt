-- What a sent message is besides its text. Only the invariant of the register, private contracts and proofs speak of it.
use Rattle.std.specs.Prelude.{nat_le, Bool, ◌&&◌, List, map}
use Rattle.desk_rules.specs.declared.answers.reply.Sent.{Sent}
use Rattle.desk_rules.specs.Content.{Content}
use Rattle.memory_register.specs.declared.sent.heading.Heading.{Heading}

-- what a message is besides its text
abbrev pub heading_of : Sent → Heading
heading_of message = record { bic = message.bic; mt = message.mt; about = message.about }

-- what the sent messages are besides their texts
abbrev pub headings_of : Content → List Heading
headings_of content = map heading_of content.sent

-- the message is of one of the types 544 to 547
abbrev pub is_confirmation : Heading → Bool
is_confirmation heading = nat_le 544 heading.mt && nat_le heading.mt 547
