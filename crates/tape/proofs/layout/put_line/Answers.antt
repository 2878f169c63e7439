use Rattle.std.proofs.Common.{◌≡◌, ℕ, ◌+◌, ◌%◌, ◌≤◌, [], ◌∷◌, ◌++◌, length, refl, ap, ◌∙◌, arith}
use Rattle.tape.specs.declared.line.Mark.{Mark}
use Rattle.tape.specs.declared.line.Mark.TheVariants.{Nothing, BidDepleted, OfferDepleted}
use Rattle.tape.specs.Layout.{bytes_of, line_bytes, mark_code}
use Rattle.tape.proofs.Fields.{field_more, spelled_so}
use Rattle.tape.proofs.layout.put_line.Goals as goal

mark_byte : (m : Mark) → mark_code m ≡ mark_code m % 256
mark_byte Nothing = refl
mark_byte BidDepleted = refl
mark_byte OfferDepleted = refl

pub returns : goal.returns
unfolding line_bytes
returns c =
    let bytes = c.args.bytes.now in
    let at = c.args.at in
    let line = c.args.line in
    let within : at ≤ length bytes = omega arith in
    let time = spelled_so bytes c.put_field.new.bytes c.to_be_bytes.result (bytes_of 8 line.time) at 1 c.to_be_bytes.ensures c.put_field.ensures in
    let partner = spelled_so c.put_field.new.bytes c.put_field-2.new.bytes c.to_be_bytes-2.result (bytes_of 4 line.partner) (at + 11) 2 c.to_be_bytes-2.ensures c.put_field-2.ensures in
    let taker = spelled_so c.put_field-2.new.bytes c.put_field-3.new.bytes c.to_be_bytes-3.result (bytes_of 4 line.taker) (at + 18) 3 c.to_be_bytes-3.ensures c.put_field-3.ensures in
    let shares = spelled_so c.put_field-3.new.bytes c.put_field-4.new.bytes c.to_be_bytes-4.result (bytes_of 4 line.shares) (at + 25) 4 c.to_be_bytes-4.ensures c.put_field-4.ensures in
    let price = spelled_so c.put_field-4.new.bytes c.put_field-5.new.bytes c.to_be_bytes-5.result (bytes_of 4 line.price) (at + 32) 5 c.to_be_bytes-5.ensures c.put_field-5.ensures in
    let mark = spelled_so c.put_field-5.new.bytes c.put_field-6.new.bytes (c.from.result ∷ []) (bytes_of 1 (mark_code line.mark)) (at + 39) 6 (ap (λ (b : ℕ). b ∷ []) (c.from.ensures ∙ mark_byte line.mark)) c.put_field-6.ensures in
    let f1 = 1 ∷ 0 ∷ 8 ∷ bytes_of 8 line.time in
    let f2 = 2 ∷ 0 ∷ 4 ∷ bytes_of 4 line.partner in
    let f3 = 3 ∷ 0 ∷ 4 ∷ bytes_of 4 line.taker in
    let f4 = 4 ∷ 0 ∷ 4 ∷ bytes_of 4 line.shares in
    let f5 = 5 ∷ 0 ∷ 4 ∷ bytes_of 4 line.price in
    let f6 = 6 ∷ 0 ∷ 1 ∷ bytes_of 1 (mark_code line.mark) in
    let two = field_more bytes c.put_field.new.bytes c.put_field-2.new.bytes f1 f2 at (at + 11) 11 7 within refl refl refl time partner in
    let three = field_more bytes c.put_field-2.new.bytes c.put_field-3.new.bytes (f1 ++ f2) f3 at (at + 18) 18 7 within refl refl refl two taker in
    let four = field_more bytes c.put_field-3.new.bytes c.put_field-4.new.bytes (f1 ++ f2 ++ f3) f4 at (at + 25) 25 7 within refl refl refl three shares in
    let five = field_more bytes c.put_field-4.new.bytes c.put_field-5.new.bytes (f1 ++ f2 ++ f3 ++ f4) f5 at (at + 32) 32 7 within refl refl refl four price in
    field_more bytes c.put_field-5.new.bytes c.put_field-6.new.bytes (f1 ++ f2 ++ f3 ++ f4 ++ f5) f6 at (at + 39) 39 4 within refl refl refl five mark
