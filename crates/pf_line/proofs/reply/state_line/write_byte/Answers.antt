use Rattle.std.proofs.Common.{◌≡◌, [], ◌∷◌, ap, refl, ◌∙◌}
use Rattle.hex.specs.Hex.{encode_lower}
use Rattle.pf_line.specs.Reply.TextLines.{newlines}
use Rattle.pf_line.proofs.StateTexts.{done, hex_plain}
use Rattle.pf_line.proofs.reply.state_line.write_byte.Goals as goal

pub write_part-requires : goal.write_part-requires
write_part-requires g c =
    let digits : c.encode_to_slice.new.output ≡ encode_lower (c.args.byte ∷ []) = done c.encode_to_slice.result _ (c.encode_to_slice.ensures.fits.1 refl) c.encode_to_slice.ensures.written in
    ap newlines digits ∙ hex_plain (c.args.byte ∷ [])

pub returns : goal.returns
returns g c =
    let digits : c.encode_to_slice.new.output ≡ encode_lower (c.args.byte ∷ []) = done c.encode_to_slice.result _ (c.encode_to_slice.ensures.fits.1 refl) c.encode_to_slice.ensures.written in
    rw digits at c.write_part.ensures
