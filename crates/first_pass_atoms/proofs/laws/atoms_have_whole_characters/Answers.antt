use Rattle.first_pass_atoms.proofs.AtomEnds.{link_boundary, html_boundary}
use Rattle.first_pass_atoms.proofs.laws.atoms_have_whole_characters.Goals as goal

pub returns : goal.returns
returns c = record {
  links = λ content place u. link_boundary content place u;
  html = λ content place u. html_boundary content place u;
}
