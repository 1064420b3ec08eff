pub mod MissingLaws
