-- The routes of the desk as its router keeps them. Only private contracts speak of them.
use Rattle.std.specs.Prelude.{◌≡◌, ℕ, List, [], ◌∷◌, ◌++◌, codes}
use Rattle.std.specs.Str.{byte}
use Rattle.matchit.specs.Rows.{RowsOf, param_token}
use Rattle.matchit.specs.Router.{RouteOf}
use Rattle.desk_http.specs.Paths.{IsPath, Path, message, operator, status, holdings, sent, sums}
use Rattle.desk_http.specs.declared.route.Route.{Route}
use Rattle.desk_http.specs.declared.route.Route.TheVariants.{Message, Operator, Status, Holdings, Sent, Sums}

-- the row of a template: its tokens, its text, the places of its parts' names, and its route
abbrev pub row : List ℕ → List ℕ → List (ℕ × ℕ) → Route → List ℕ × RouteOf Route
row pattern text names route = (pattern, record { pattern = pattern; text = text; names = names; value = route })

-- the tokens of a part that ends a target, and of two parts with a slash between
abbrev pub one_part : List ℕ
one_part = param_token ∷ []

abbrev pub two_parts : List ℕ
two_parts = param_token ∷ byte "/" ∷ param_token ∷ []

-- the rows of the six templates, in the order of their tokens
abbrev pub desk_rows : RowsOf (RouteOf Route)
desk_rows =
    row (codes "/holdings/" ++ one_part) (codes "/holdings/{bic}") ((11, 14) ∷ []) Holdings
    ∷ row (codes "/in/" ++ two_parts) (codes "/in/{bic}/{mt}") ((5, 8) ∷ (11, 13) ∷ []) Message
    ∷ row (codes "/ops") (codes "/ops") [] Operator
    ∷ row (codes "/out/" ++ two_parts) (codes "/out/{bic}/{k}") ((6, 9) ∷ (12, 13) ∷ []) Sent
    ∷ row (codes "/status/" ++ one_part) (codes "/status/{bic}") ((9, 12) ∷ []) Status
    ∷ row (codes "/sums") (codes "/sums") [] Sums
    ∷ []

-- what the router keeps of a path
abbrev pub route_of : Path → Route
route_of (message bic mt) = Message
route_of operator = Operator
route_of (status bic) = Status
route_of (holdings bic) = Holdings
route_of (sent bic number) = Sent
route_of sums = Sums

-- the target is a path of this route
abbrev pub IsOn : Route → List ℕ → Type 0
IsOn route target = (path : Path) × (route_of path ≡ route) × IsPath path target
