use Rattle.std.proofs.Common.{◌∙◌, ap, refl, sym, subst}
use Rattle.sqlite.specs.State.{HasCleanDisk}
use Rattle.desk_register.specs.Changes.{empty_content}
use Rattle.sql_tables.specs.Ends.{ForCause}
use Rattle.sql_tables.proofs.CallLemmas.{later_then}
use Rattle.sql_tables.proofs.MakingCauses.{caused_on}
use Rattle.sql_tables.proofs.MakingLemmas.{kept_then}
use Rattle.sql_tables.proofs.ResultLemmas.{on_error}
use Rattle.sql_tables.proofs.VersionLemmas.{no_version}
use Rattle.sql_register.specs.Holds.{Becomes}
use Rattle.sql_register.proofs.MadeLemmas.{fallen_kept, written_kept}
use Rattle.sql_register.proofs.EmptyContent.{blank_empty, empty_becomes, version_empty}
use Rattle.sql_register.proofs.FailedLemmas.{not_done}
use Rattle.sql_register.proofs.ReadLemmas.{was_clean}
use Rattle.sql_register.proofs.making.make.Goals as goal

pub returns-clause-made : goal.returns-clause-made
returns-clause-made g c clean is_open blank =
    let s1 = g.S.Session.state c.begin_making.new.conn in
    let s2 = g.S.Session.state c.make_tables.new.conn in
    let s3 = g.S.Session.state c.set_version.new.conn in
    let s4 = g.S.Session.state c.commit.new.conn in
    let clean3 : HasCleanDisk s3 = was_clean _ _ c.commit.ensures.later clean in
    let clean2 : HasCleanDisk s2 = was_clean _ _ c.set_version.ensures.write.later clean3 in
    let clean1 : HasCleanDisk s1 = was_clean _ _ c.make_tables.ensures.later clean2 in
    let begun = c.in_ok-begin_making.ensures.ok clean1 is_open blank in
    let made = c.in_ok-make_tables.ensures.made clean2 begun.is_open (blank_empty s1.now (ap (λ d. d.schema) begun.now ∙ blank)) in
    let stays = c.in_ok-set_version.ensures.write.ok clean3 made.is_open made.empty.schema_is in
    let set = c.in_ok-set_version.ensures.set clean3 made.is_open made.empty.schema_is (no_version s2.now made.empty.empty.1.1.1.1.1.1.0) in
    let done = c.in_ok-commit.ensures.ok clean stays.is_open stays.schema in
    record {
      is_open = done.is_open;
      settled = done.now ∙ sym done.committed;
      empty = subst (λ d. Becomes d empty_content) (sym done.now) (empty_becomes s3.now (version_empty s2.now s3.now made.empty stays.schema set) set.version);
      mode = done.mode;
      marks = done.marks;
    }

pub returns-clause-outside : goal.returns-clause-outside
returns-clause-outside g c clean blank =
    let s1 = g.S.Session.state c.begin_making.new.conn in
    let s2 = g.S.Session.state c.make_tables.new.conn in
    let s3 = g.S.Session.state c.set_version.new.conn in
    let clean3 : HasCleanDisk s3 = was_clean _ _ c.commit.ensures.later clean in
    let clean2 : HasCleanDisk s2 = was_clean _ _ c.set_version.ensures.write.later clean3 in
    let clean1 : HasCleanDisk s1 = was_clean _ _ c.make_tables.ensures.later clean2 in
    c.in_ok-begin_making.ensures.outside clean1 blank

pub returns-in_err-make_tables-clause-kept : goal.returns-in_err-make_tables-clause-kept
returns-in_err-make_tables-clause-kept g c clean is_open blank =
    let s0 = g.S.Session.state c.args.conn.now in
    let s1 = g.S.Session.state c.begin_making.new.conn in
    let s2 = g.S.Session.state c.make_tables.new.conn in
    let clean1 : HasCleanDisk s1 = was_clean _ _ c.make_tables.ensures.later clean in
    let begun = c.in_ok-begin_making.ensures.ok clean1 is_open blank in
    kept_then c.from_residual-in_err-make_tables.result s0 s1 s2 begun.committed (c.in_err-make_tables.ensures.kept clean begun.is_open begun.mode (blank_empty s1.now (ap (λ d. d.schema) begun.now ∙ blank)))

pub returns-in_err-set_version-clause-kept : goal.returns-in_err-set_version-clause-kept
returns-in_err-set_version-clause-kept g c clean is_open blank =
    let s0 = g.S.Session.state c.args.conn.now in
    let s1 = g.S.Session.state c.begin_making.new.conn in
    let s2 = g.S.Session.state c.make_tables.new.conn in
    let s3 = g.S.Session.state c.set_version.new.conn in
    let clean2 : HasCleanDisk s2 = was_clean _ _ c.set_version.ensures.write.later clean in
    let clean1 : HasCleanDisk s1 = was_clean _ _ c.make_tables.ensures.later clean2 in
    let begun = c.in_ok-begin_making.ensures.ok clean1 is_open blank in
    let made = c.in_ok-make_tables.ensures.made clean2 begun.is_open (blank_empty s1.now (ap (λ d. d.schema) begun.now ∙ blank)) in
    kept_then c.from_residual-in_err-set_version.result s0 s2 s3 (made.committed begun.mode ∙ begun.committed)
    (written_kept s2 s3 (made.mode ∙ begun.mode) (c.in_err-set_version.ensures.write.err clean made.is_open made.empty.schema_is))

pub returns-in_err-commit-clause-kept : goal.returns-in_err-commit-clause-kept
returns-in_err-commit-clause-kept g c clean is_open blank =
    let s0 = g.S.Session.state c.args.conn.now in
    let s1 = g.S.Session.state c.begin_making.new.conn in
    let s2 = g.S.Session.state c.make_tables.new.conn in
    let s3 = g.S.Session.state c.set_version.new.conn in
    let s4 = g.S.Session.state c.commit.new.conn in
    let clean3 : HasCleanDisk s3 = was_clean _ _ c.commit.ensures.later clean in
    let clean2 : HasCleanDisk s2 = was_clean _ _ c.set_version.ensures.write.later clean3 in
    let clean1 : HasCleanDisk s1 = was_clean _ _ c.make_tables.ensures.later clean2 in
    let begun = c.in_ok-begin_making.ensures.ok clean1 is_open blank in
    let made = c.in_ok-make_tables.ensures.made clean2 begun.is_open (blank_empty s1.now (ap (λ d. d.schema) begun.now ∙ blank)) in
    let stays = c.in_ok-set_version.ensures.write.ok clean3 made.is_open made.empty.schema_is in
    kept_then c.from_residual-in_err-commit.result s0 s3 s4 (stays.committed (made.mode ∙ begun.mode) ∙ made.committed begun.mode ∙ begun.committed)
    (fallen_kept s3 s4 (c.in_err-commit.ensures.err clean stays.is_open stays.schema))

pub returns-in_err-begin_making-clause-blame : goal.returns-in_err-begin_making-clause-blame
returns-in_err-begin_making-clause-blame g c clean is_open blank outside =
    on_error c.from_residual.result c.in_err-begin_making.field-0.0 (ForCause (g.S.Session.state c.args.conn.now) (g.S.Session.state c.begin_making.new.conn)) c.from_residual.ensures.1
    (c.in_err-begin_making.ensures.blame clean is_open blank outside)

pub returns-in_err-make_tables-clause-blame : goal.returns-in_err-make_tables-clause-blame
returns-in_err-make_tables-clause-blame g c clean is_open blank outside =
    let s0 = g.S.Session.state c.args.conn.now in
    let s1 = g.S.Session.state c.begin_making.new.conn in
    let s2 = g.S.Session.state c.make_tables.new.conn in
    let clean1 : HasCleanDisk s1 = was_clean _ _ c.make_tables.ensures.later clean in
    let begun = c.in_ok-begin_making.ensures.ok clean1 is_open blank in
    caused_on c.from_residual-in_err-make_tables.result c.in_err-make_tables.field-0.0 s0 s1 s2 c.from_residual-in_err-make_tables.ensures.1 c.begin_making.ensures.later c.make_tables.ensures.later
    (c.in_err-make_tables.ensures.blame clean begun.is_open (blank_empty s1.now (ap (λ d. d.schema) begun.now ∙ blank)))

pub returns-in_err-set_version-clause-blame : goal.returns-in_err-set_version-clause-blame
returns-in_err-set_version-clause-blame g c clean is_open blank outside =
    let s0 = g.S.Session.state c.args.conn.now in
    let s1 = g.S.Session.state c.begin_making.new.conn in
    let s2 = g.S.Session.state c.make_tables.new.conn in
    let s3 = g.S.Session.state c.set_version.new.conn in
    let clean2 : HasCleanDisk s2 = was_clean _ _ c.set_version.ensures.write.later clean in
    let clean1 : HasCleanDisk s1 = was_clean _ _ c.make_tables.ensures.later clean2 in
    let begun = c.in_ok-begin_making.ensures.ok clean1 is_open blank in
    let made = c.in_ok-make_tables.ensures.made clean2 begun.is_open (blank_empty s1.now (ap (λ d. d.schema) begun.now ∙ blank)) in
    let later = later_then s0 s1 s2 c.begin_making.ensures.later c.make_tables.ensures.later in
    caused_on c.from_residual-in_err-set_version.result c.in_err-set_version.field-0.0 s0 s2 s3 c.from_residual-in_err-set_version.ensures.1 later c.set_version.ensures.write.later
    (c.in_err-set_version.ensures.blame clean made.is_open made.empty.schema_is (no_version s2.now made.empty.empty.1.1.1.1.1.1.0))

pub returns-in_err-commit-clause-blame : goal.returns-in_err-commit-clause-blame
returns-in_err-commit-clause-blame g c clean is_open blank outside =
    let s0 = g.S.Session.state c.args.conn.now in
    let s1 = g.S.Session.state c.begin_making.new.conn in
    let s2 = g.S.Session.state c.make_tables.new.conn in
    let s3 = g.S.Session.state c.set_version.new.conn in
    let s4 = g.S.Session.state c.commit.new.conn in
    let clean3 : HasCleanDisk s3 = was_clean _ _ c.commit.ensures.later clean in
    let clean2 : HasCleanDisk s2 = was_clean _ _ c.set_version.ensures.write.later clean3 in
    let clean1 : HasCleanDisk s1 = was_clean _ _ c.make_tables.ensures.later clean2 in
    let begun = c.in_ok-begin_making.ensures.ok clean1 is_open blank in
    let made = c.in_ok-make_tables.ensures.made clean2 begun.is_open (blank_empty s1.now (ap (λ d. d.schema) begun.now ∙ blank)) in
    let stays = c.in_ok-set_version.ensures.write.ok clean3 made.is_open made.empty.schema_is in
    let later = later_then s0 s2 s3 (later_then s0 s1 s2 c.begin_making.ensures.later c.make_tables.ensures.later) c.set_version.ensures.write.later in
    caused_on c.from_residual-in_err-commit.result c.in_err-commit.field-0.0 s0 s3 s4 c.from_residual-in_err-commit.ensures.1 later c.commit.ensures.later
    (c.in_err-commit.ensures.blame clean stays.is_open stays.schema (stays.mode ∙ made.mode ∙ begun.mode))

pub returns-in_err-begin_making-clause-made : goal.returns-in_err-begin_making-clause-made
returns-in_err-begin_making-clause-made g c clean is_open blank = not_done c.from_residual.result c.in_err-begin_making.field-0.0 c.from_residual.ensures.1 _

pub returns-in_err-begin_making-clause-outside : goal.returns-in_err-begin_making-clause-outside
returns-in_err-begin_making-clause-outside g c clean blank = not_done c.from_residual.result c.in_err-begin_making.field-0.0 c.from_residual.ensures.1 _

pub returns-in_err-make_tables-clause-made : goal.returns-in_err-make_tables-clause-made
returns-in_err-make_tables-clause-made g c clean is_open blank = not_done c.from_residual-in_err-make_tables.result c.in_err-make_tables.field-0.0 c.from_residual-in_err-make_tables.ensures.1 _

pub returns-in_err-make_tables-clause-outside : goal.returns-in_err-make_tables-clause-outside
returns-in_err-make_tables-clause-outside g c clean blank = not_done c.from_residual-in_err-make_tables.result c.in_err-make_tables.field-0.0 c.from_residual-in_err-make_tables.ensures.1 _

pub returns-in_err-set_version-clause-made : goal.returns-in_err-set_version-clause-made
returns-in_err-set_version-clause-made g c clean is_open blank = not_done c.from_residual-in_err-set_version.result c.in_err-set_version.field-0.0 c.from_residual-in_err-set_version.ensures.1 _

pub returns-in_err-set_version-clause-outside : goal.returns-in_err-set_version-clause-outside
returns-in_err-set_version-clause-outside g c clean blank = not_done c.from_residual-in_err-set_version.result c.in_err-set_version.field-0.0 c.from_residual-in_err-set_version.ensures.1 _

pub returns-in_err-commit-clause-made : goal.returns-in_err-commit-clause-made
returns-in_err-commit-clause-made g c clean is_open blank = not_done c.from_residual-in_err-commit.result c.in_err-commit.field-0.0 c.from_residual-in_err-commit.ensures.1 _

pub returns-in_err-commit-clause-outside : goal.returns-in_err-commit-clause-outside
returns-in_err-commit-clause-outside g c clean blank = not_done c.from_residual-in_err-commit.result c.in_err-commit.field-0.0 c.from_residual-in_err-commit.ensures.1 _

pub returns-in_err-begin_making-clause-later : goal.returns-in_err-begin_making-clause-later
returns-in_err-begin_making-clause-later g c = c.begin_making.ensures.later

pub returns-in_err-make_tables-clause-later : goal.returns-in_err-make_tables-clause-later
returns-in_err-make_tables-clause-later g c =
    let s0 = g.S.Session.state c.args.conn.now in
    let s1 = g.S.Session.state c.begin_making.new.conn in
    let s2 = g.S.Session.state c.make_tables.new.conn in
    later_then s0 s1 s2 c.begin_making.ensures.later c.make_tables.ensures.later

pub returns-in_err-set_version-clause-later : goal.returns-in_err-set_version-clause-later
returns-in_err-set_version-clause-later g c =
    let s0 = g.S.Session.state c.args.conn.now in
    let s1 = g.S.Session.state c.begin_making.new.conn in
    let s2 = g.S.Session.state c.make_tables.new.conn in
    let s3 = g.S.Session.state c.set_version.new.conn in
    later_then s0 s2 s3 (later_then s0 s1 s2 c.begin_making.ensures.later c.make_tables.ensures.later) c.set_version.ensures.write.later

pub returns-in_err-commit-clause-later : goal.returns-in_err-commit-clause-later
returns-in_err-commit-clause-later g c =
    let s0 = g.S.Session.state c.args.conn.now in
    let s1 = g.S.Session.state c.begin_making.new.conn in
    let s2 = g.S.Session.state c.make_tables.new.conn in
    let s3 = g.S.Session.state c.set_version.new.conn in
    let s4 = g.S.Session.state c.commit.new.conn in
    later_then s0 s3 s4 (later_then s0 s2 s3 (later_then s0 s1 s2 c.begin_making.ensures.later c.make_tables.ensures.later) c.set_version.ensures.write.later) c.commit.ensures.later

pub returns-clause-later : goal.returns-clause-later
returns-clause-later g c =
    let s0 = g.S.Session.state c.args.conn.now in
    let s1 = g.S.Session.state c.begin_making.new.conn in
    let s2 = g.S.Session.state c.make_tables.new.conn in
    let s3 = g.S.Session.state c.set_version.new.conn in
    let s4 = g.S.Session.state c.commit.new.conn in
    later_then s0 s3 s4 (later_then s0 s2 s3 (later_then s0 s1 s2 c.begin_making.ensures.later c.make_tables.ensures.later) c.set_version.ensures.write.later) c.commit.ensures.later

pub returns-in_err-begin_making-clause-kept : goal.returns-in_err-begin_making-clause-kept
returns-in_err-begin_making-clause-kept g c clean is_open blank =
    let s0 = g.S.Session.state c.args.conn.now in
    kept_then c.from_residual.result s0 s0 (g.S.Session.state c.begin_making.new.conn) refl (c.in_err-begin_making.ensures.kept clean)

pub returns-clause-kept : goal.returns-clause-kept
returns-clause-kept g c clean is_open blank = tt

pub returns-clause-blame : goal.returns-clause-blame
returns-clause-blame g c clean is_open blank outside = tt
