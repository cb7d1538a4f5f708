-- Which message type, which way to count a security, and which type of settlement a text names.
use Rattle.std.specs.Prelude.{◌≡◌, ℕ, List, Option, Some, None, Result, Ok, Err}
use Rattle.desk_msg.specs.declared.mt.Mt.{Mt}
use Rattle.desk_msg.specs.declared.mt.UnknownType.{UnknownType}
use Rattle.desk_msg.specs.declared.instruction.Kind.{Kind}
use Rattle.desk_msg.specs.declared.instruction.UnknownKind.{UnknownKind}
use Rattle.desk_msg.specs.Profile.{code_of_kind}

-- the type of which P holds, or none where it holds of no type
abbrev pub ReadsType : (Mt → Type 0) → Result Mt UnknownType → Type 0
ReadsType P (Ok mt) = P mt
ReadsType P (Err unknown) = (mt : Mt) → P mt → ⊥

abbrev pub ReadsKind : List ℕ → Result Kind UnknownKind → Type 0
ReadsKind code (Ok kind) = code_of_kind kind ≡ code
ReadsKind code (Err unknown) = (kind : Kind) → code_of_kind kind ≡ code → ⊥

-- P holds of what was found, as `view` shows it; or nothing was found, and P holds of nothing
abbrev pub IsFound : {X Y : Type 0} → (X → Y) → (Y → Type 0) → Option X → Type 0
IsFound view P (Some x) = P (view x)
IsFound view P None = (y : _) → P y → ⊥

-- the text itself, as a contract sees a code
abbrev pub code_itself : List ℕ → List ℕ
code_itself text = text
