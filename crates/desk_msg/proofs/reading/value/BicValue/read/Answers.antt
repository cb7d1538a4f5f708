use Rattle.desk_text.specs.Seen.{found_of}
use Rattle.desk_msg.specs.Profile.{IsPartyText, party_form, slashed}
use Rattle.desk_msg.specs.Finding.{row_seen}
use Rattle.desk_msg.proofs.RowLemmas.{text_behind}
use Rattle.desk_msg.proofs.reading.value.BicValue.read.Goals as goal

pub returns : goal.returns
returns c =
    text_behind IsPartyText (row_seen party_form c.args.row.now) (slashed c.args.row.now.begins.now) c.in_ok-text.text.now (found_of c.args.field.now) (λ e. cc) (λ e. cc) (λ y h. h) (λ y h. h)
    c.in_ok-text.ensures c.party_of.result c.party_of.ensures
