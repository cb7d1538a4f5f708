-- What contracts see of the rows of a register in memory.
use Rattle.memory_rows.specs.declared.rows.Rows.{Rows}
use Rattle.memory_rows.specs.Lists.{content_in, listed, undone}
use Rattle.desk_register.specs.Device.{no_device}
use Rattle.desk_register.specs.View.{View}

-- `back` goes back to before all changes that are noted, and there is no device that could fail or lie.
abbrev pub view_of_rows : Rows → View
view_of_rows r = record {
  content = content_in (listed r.lists);
  mark = content_in (undone r.changes.items (listed r.lists));
  stage = r.stage;
  room = r.limit;
  is_honest = Unit {0};
  is_sure = Unit {0};
  device = no_device;
}
