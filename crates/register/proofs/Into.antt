-- What reading a field adds to an order, whatever the order has besides. Cite offset_into for the offset, draft_into for a ticket's
-- fields.
use Rattle.std.proofs.Common.{◌≡◌, ℕ, List, ℤ, pos, Ok, Result, arith}
use Rattle.terms.specs.declared.ticket.Draft.{Draft}
use Rattle.register.specs.declared.fault.Fault.{Fault}
use Rattle.register.specs.Layout.{blank, with_codes, with_shares, with_limit, with_offset, codes_field, shares_field, limit_field, offset_field, ticket_layout}
use Rattle.register.specs.Numbers.{number_from}
use Rattle.register.specs.Parts.{order_with_offset, order_with_draft}
use Rattle.register.specs.Reading.{read_four, read_field, read_fields}

pub offset_into : (total start : ℕ) (rest left : List ℕ) (r : Result ℤ Fault) (draft : Draft) → order_with_offset blank r left ≡ read_field total start offset_field (record { order = blank; rest = rest }) → order_with_offset (record blank { draft = with_offset (pos 0) draft }) r left ≡ read_field total start offset_field (record { order = record blank { draft = with_offset (pos 0) draft }; rest = rest })
offset_into total start rest left r draft h = grind arith

-- a ticket's fields, read one after another
pub draft_read : (total start : ℕ) (rest : List ℕ) (v : List ℕ) (rest_2 : List ℕ) (shares : ℕ) (rest_3 : List ℕ) (limit : ℕ) (rest_4 : List ℕ) (offset : ℤ) (left : List ℕ)
    → Ok (v, rest_2) ≡ read_four (λ x. x) total start rest codes_field.tag
    → Ok (shares, rest_3) ≡ read_four number_from total start rest_2 shares_field.tag
    → Ok (limit, rest_4) ≡ read_four number_from total start rest_3 limit_field.tag
    → order_with_offset blank (Ok offset) left ≡ read_field total start offset_field (record { order = blank; rest = rest_4 })
    → order_with_draft blank (Ok (with_offset offset (with_limit limit (with_shares shares (with_codes v blank.draft))))) left ≡ read_fields total start ticket_layout (record { order = blank; rest = rest })
unfolding read_fields
draft_read total start rest v rest_2 shares rest_3 limit rest_4 offset left codes shares_read limit_read read =
    let draft = with_limit limit (with_shares shares (with_codes v blank.draft)) in
    let offset_there = offset_into total start rest_4 left (Ok offset) draft read in
    grind (arith, offset_there)
