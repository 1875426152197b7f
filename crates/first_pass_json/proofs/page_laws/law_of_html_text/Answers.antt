use Rattle.first_pass_json.proofs.HtmlTexts.{no_tag}
use Rattle.first_pass_json.proofs.page_laws.law_of_html_text.Goals as goal

pub returns : goal.returns
returns c = no_tag
