-- What contracts see of the register in memory: what they see of its rows.
use Rattle.memory_rows.specs.RowsView.{view_of_rows}
use Rattle.desk_register.specs.View.{View}
use Rattle.memory_register.specs.declared.list_register.ListRegister.{ListRegister}

abbrev pub view_of_lists : ListRegister → View
view_of_lists r = view_of_rows r.held
