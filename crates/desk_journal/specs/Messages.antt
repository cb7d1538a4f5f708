-- The messages that the entries of a history caused, as their addressees ask for them.
use Rattle.std.specs.Prelude.{ℕ, ◌+◌, ◌-◌, List, [], ◌∷◌, ◌++◌, length, take, drop, count_by, bytes_eq}
use Rattle.std.specs.List.{flat_map, range_with_len}
use Rattle.desk_rules.specs.declared.answers.reply.Sent.{Sent}
use Rattle.desk_rules.specs.Books.{Books}
use Rattle.desk_rules.specs.Sent.{sent_of, told_by}
use Rattle.desk_journal.specs.declared.rows.journal.MessageKey.{MessageKey}

-- a message, by its number among those that were sent to its addressee: one more than were sent to it before
abbrev pub key_after : List Sent → Sent → MessageKey
key_after earlier message = record { mt = message.mt; bic = message.bic; number = count_by (λ (m : Sent). bytes_eq m.bic message.bic) earlier + 1 }

-- these messages, one after another, where others were sent before
abbrev pub keys_after : List Sent → List Sent → List MessageKey
keys_after earlier [] = []
keys_after earlier (message ∷ messages) = key_after earlier message ∷ keys_after (earlier ++ message ∷ []) messages

-- all that was sent
abbrev pub keys_of : Books → List MessageKey
keys_of books = keys_after [] (sent_of books)

-- how many messages the entries up to a number caused
abbrev pub sent_upto : Books → ℕ → ℕ
sent_upto books n = length (flat_map (told_by books) (range_with_len 1 n))

-- The messages that an entry caused: of all that was sent as many as it tells of, behind those that the entries before it caused.
abbrev pub messages_of : Books → ℕ → List MessageKey
messages_of books n = take (length (told_by books n)) (drop (sent_upto books (n - 1)) (keys_of books))
