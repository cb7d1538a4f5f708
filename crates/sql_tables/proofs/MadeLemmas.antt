-- What the texts make, and that nothing refuses it.
use Rattle.std.proofs.Common.{◌≡◌, codes, true, refl}
use Rattle.sqlite.specs.declared.types.Value.TheVariants.{Text}
use Rattle.sqlite_catalog.specs.Listing.{is_fit}
use Rattle.sqlite_trees.specs.Sound.{begins, fits_kind, is_free_name, same_name}
use Rattle.sqlite_value.specs.Order.{value_cmp}
use Rattle.sqlite.specs.Listing.{understood}
use Rattle.sqlite_tied.specs.Compute.{everything}
use Rattle.sql_tables.specs.declared.tables.TheConstants.{MAKES_BALANCE, MAKES_CASH, MAKES_REGISTER, MAKES_SENT, MAKES_STATE, MAKES_TOTAL, MAKES_VERSION}
use Rattle.sql_tables.specs.Schema.{desk_schema, no_schema}
use Rattle.sql_tables.specs.Making.{first_of, Makes}

-- ---- each fits the list of tables

balance_fits : is_fit (Text (codes "table")) (Text (codes "balance")) (Text (codes "balance")) (Text MAKES_BALANCE.now) ≡ true
unfolding fits_kind is_free_name same_name begins value_cmp lib.Ieee.is_nan lib.Ieee.lt
balance_fits = refl

cash_fits : is_fit (Text (codes "table")) (Text (codes "cash")) (Text (codes "cash")) (Text MAKES_CASH.now) ≡ true
unfolding fits_kind is_free_name same_name begins value_cmp lib.Ieee.is_nan lib.Ieee.lt
cash_fits = refl

total_fits : is_fit (Text (codes "table")) (Text (codes "total")) (Text (codes "total")) (Text MAKES_TOTAL.now) ≡ true
unfolding fits_kind is_free_name same_name begins value_cmp lib.Ieee.is_nan lib.Ieee.lt
total_fits = refl

register_fits : is_fit (Text (codes "table")) (Text (codes "register")) (Text (codes "register")) (Text MAKES_REGISTER.now) ≡ true
unfolding fits_kind is_free_name same_name begins value_cmp lib.Ieee.is_nan lib.Ieee.lt
register_fits = refl

state_fits : is_fit (Text (codes "table")) (Text (codes "state")) (Text (codes "state")) (Text MAKES_STATE.now) ≡ true
unfolding fits_kind is_free_name same_name begins value_cmp lib.Ieee.is_nan lib.Ieee.lt
state_fits = refl

sent_fits : is_fit (Text (codes "table")) (Text (codes "sent")) (Text (codes "sent")) (Text MAKES_SENT.now) ≡ true
unfolding fits_kind is_free_name same_name begins value_cmp lib.Ieee.is_nan lib.Ieee.lt
sent_fits = refl

version_fits : is_fit (Text (codes "table")) (Text (codes "version")) (Text (codes "version")) (Text MAKES_VERSION.now) ≡ true
unfolding fits_kind is_free_name same_name begins value_cmp lib.Ieee.is_nan lib.Ieee.lt
version_fits = refl

-- ---- what each makes

pub balance_made : Makes MAKES_BALANCE.now no_schema (first_of 1 1)
unfolding understood everything
balance_made = record { compiled = _; understood_as = refl; whole = refl; ends = refl; unnamed = refl; free = record { table = _; defined = refl; unused = refl; unlisted = refl; unreserved = refl; plain_name = refl; plain = refl; room = refl; reals = refl; index_reals = refl; formed = refl; fits = balance_fits }; plain = (refl, refl); unsequenced = refl; made = record { table = _; defined = refl; makes = refl; is = refl } }

pub cash_made : Makes MAKES_CASH.now (first_of 1 1) (first_of 2 2)
unfolding understood everything
cash_made = record { compiled = _; understood_as = refl; whole = refl; ends = refl; unnamed = refl; free = record { table = _; defined = refl; unused = refl; unlisted = refl; unreserved = refl; plain_name = refl; plain = refl; room = refl; reals = refl; index_reals = refl; formed = refl; fits = cash_fits }; plain = (refl, refl); unsequenced = refl; made = record { table = _; defined = refl; makes = refl; is = refl } }

pub total_made : Makes MAKES_TOTAL.now (first_of 2 2) (first_of 3 3)
unfolding understood everything
total_made = record { compiled = _; understood_as = refl; whole = refl; ends = refl; unnamed = refl; free = record { table = _; defined = refl; unused = refl; unlisted = refl; unreserved = refl; plain_name = refl; plain = refl; room = refl; reals = refl; index_reals = refl; formed = refl; fits = total_fits }; plain = (refl, refl); unsequenced = refl; made = record { table = _; defined = refl; makes = refl; is = refl } }

pub register_made : Makes MAKES_REGISTER.now (first_of 3 3) (first_of 4 4)
unfolding understood everything
register_made = record { compiled = _; understood_as = refl; whole = refl; ends = refl; unnamed = refl; free = record { table = _; defined = refl; unused = refl; unlisted = refl; unreserved = refl; plain_name = refl; plain = refl; room = refl; reals = refl; index_reals = refl; formed = refl; fits = register_fits }; plain = (refl, refl); unsequenced = refl; made = record { table = _; defined = refl; makes = refl; is = refl } }

pub state_made : Makes MAKES_STATE.now (first_of 4 4) (first_of 5 4)
unfolding understood everything
state_made = record { compiled = _; understood_as = refl; whole = refl; ends = refl; unnamed = refl; free = record { table = _; defined = refl; unused = refl; unlisted = refl; unreserved = refl; plain_name = refl; plain = refl; room = refl; reals = refl; index_reals = refl; formed = refl; fits = state_fits }; plain = (refl, refl); unsequenced = refl; made = record { table = _; defined = refl; makes = refl; is = refl } }

pub sent_made : Makes MAKES_SENT.now (first_of 5 4) (first_of 6 4)
unfolding understood everything
sent_made = record { compiled = _; understood_as = refl; whole = refl; ends = refl; unnamed = refl; free = record { table = _; defined = refl; unused = refl; unlisted = refl; unreserved = refl; plain_name = refl; plain = refl; room = refl; reals = refl; index_reals = refl; formed = refl; fits = sent_fits }; plain = (refl, refl); unsequenced = refl; made = record { table = _; defined = refl; makes = refl; is = refl } }

pub version_made : Makes MAKES_VERSION.now (first_of 6 4) desk_schema
unfolding understood everything
version_made = record { compiled = _; understood_as = refl; whole = refl; ends = refl; unnamed = refl; free = record { table = _; defined = refl; unused = refl; unlisted = refl; unreserved = refl; plain_name = refl; plain = refl; room = refl; reals = refl; index_reals = refl; formed = refl; fits = version_fits }; plain = (refl, refl); unsequenced = refl; made = record { table = _; defined = refl; makes = refl; is = refl } }
