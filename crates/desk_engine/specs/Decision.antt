-- What is said of what a register holds.
use Rattle.desk_rules.specs.Content.{Content}
use Rattle.desk_register.specs.View.{View, IfRead}

-- Over a reading call this holds of the content.
abbrev pub Reading : View → View → (Content → Type 0) → Type 0
Reading old new says = IfRead old new (says old.content)
