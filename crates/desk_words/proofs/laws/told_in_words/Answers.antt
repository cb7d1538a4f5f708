use Rattle.desk_words.proofs.CatalogueLemmas.{command_told, entry_explained, fault_told, line_told, message_explained, name_told, one_meaning, text_told}
use Rattle.desk_words.proofs.TopicLemmas.{word_explained}
use Rattle.desk_words.proofs.laws.told_in_words.Goals as goal

pub returns-clause-one_meaning : goal.returns-clause-one_meaning
returns-clause-one_meaning c = one_meaning

pub returns-clause-entries : goal.returns-clause-entries
returns-clause-entries c = entry_explained

pub returns-clause-messages : goal.returns-clause-messages
returns-clause-messages c = message_explained

pub returns-clause-texts : goal.returns-clause-texts
returns-clause-texts c = text_told

pub returns-clause-commands : goal.returns-clause-commands
returns-clause-commands c = command_told

pub returns-clause-names : goal.returns-clause-names
returns-clause-names c = name_told

pub returns-clause-lines : goal.returns-clause-lines
returns-clause-lines c = line_told

pub returns-clause-faults : goal.returns-clause-faults
returns-clause-faults c = fault_told

pub returns-clause-fields : goal.returns-clause-fields
returns-clause-fields c = word_explained
