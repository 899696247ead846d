use Rattle.ws_extended.proofs.ImageBodies.{image_is_body}
use Rattle.ws_extended.proofs.image.known_image.Goals as goal

pub returns : goal.returns
returns c = λ row small. image_is_body row c.args.screen.now c.known.ensures.legal c.known_parts.ensures small
