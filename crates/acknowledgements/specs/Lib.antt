pub mod Acknowledgements
