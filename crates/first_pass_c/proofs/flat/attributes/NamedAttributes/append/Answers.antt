use Rattle.std.proofs.Common.{refl}
use Rattle.first_pass_c.proofs.Appending.{attribute_appended, text_appended}
use Rattle.first_pass_c.proofs.flat.attributes.NamedAttributes.append.Goals as goal

pub returns : goal.returns
returns c =
    let name = c.in_ok-spelled in
    let value = c.in_ok-value_range in
    attribute_appended _ _ _ name.spelled value.value_range _ _ (record {
      between = _;
      name_is = text_appended _ _ _ _ _ refl name.ensures.start name.ensures.count name.ensures.names;
      value_is = text_appended _ _ _ _ _ c.text_or_empty.ensures value.ensures.start value.ensures.count value.ensures.names;
    }) c.presence.ensures c.number_of.ensures c.in_ok-append_record.ensures
